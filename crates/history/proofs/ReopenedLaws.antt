-- What was flushed or stopped is found again.
use Rattle.std.proofs.Common.{◌≡◌, ℕ, ◌<◌, ◌≤◌, ◌⊎◌, inl, inr, List, [], ◌∷◌, length, take, fold, refl, sym, ap, ◌∙◌, subst, arith, take_all, Some, None}
use Rattle.std.specs.Prelude.{slice_index_or, IfSome}
use Rattle.std.proofs.lemmas.List.Sums.{fold-append}
use Rattle.std.proofs.lemmas.Bool.{le-leb}
use Rattle.raid_types.specs.Sectors.{Sector}
use Rattle.bank.specs.Tape.{Contents, contents, IsImage, IsIn}
use Rattle.bank.proofs.Images.{drawn-image, disk-some}
use Rattle.history.specs.declared.events.Event.{Event}
use Rattle.history.specs.declared.events.Event.TheVariants.{Flushed, Stopped}
use Rattle.history.specs.declared.events.Entry.{Entry}
use Rattle.history.specs.World.{World, contents_at, opening_list, reading_at}
use Rattle.history.specs.Stands.{stands, verdict}
use Rattle.history.specs.Flat.{values_of, values_after, first_values}
use Rattle.history.specs.CrashSafe.{made_by, last_resized, MayBeJudgedBy, StandsFor, IsJudged, IsRefusedRightly}
use Rattle.history.specs.Growing.{EndBy}
use Rattle.history.specs.Opened.{IsSound, OpensSound}
use Rattle.sb_read_laws.specs.sb_specs_Reading.{reading}
use Rattle.history.proofs.FewerSlots.{accepted-roles, found-same, not-missing, not-degraded}
use Rattle.history.specs.Reopened.{OpensAccepted, IsReopened, IsSameArray, EndsSettled, OpensWith, SettledListsAreFound, SoundArraysAreFound}

-- the contents at a mark are an image there
contents-image : (world : World) (mark : ℕ) → mark ≤ length world.tape → IsImage world.start world.tape mark (contents_at world mark)
contents-image world mark within = drawn-image world.start world.tape mark (contents_at world mark) within (λ s k. disk-some world.start (take mark world.tape) s k)

-- all entries were made by a mark behind them
all-made : (mark : ℕ) (entries : List Entry) → EndBy mark entries → made_by mark entries ≡ length entries
all-made mark [] ends = refl
all-made mark (e ∷ entries) ends = rw (le-leb e.end mark ends.0) (let rest : made_by mark entries ≡ length entries = all-made mark entries ends.1 in omega (arith, rest))

-- behind a flush or a stop each sector has its present value alone
one-value : (vs : List Sector) (v : Sector) → IsIn (take 1 vs) v → v ≡ slice_index_or (take 1 vs) 0 []
one-value [] v none = absurd none
one-value (w ∷ vs) v (inl e) = e
one-value (w ∷ vs) v (inr none) = absurd none

abbrev step : ℕ → List Sector → Entry → List Sector
step x values e = values_after x values e.event

settles : (x : ℕ) (vs : List Sector) (event : Event) → (event ≡ Flushed) ⊎ (event ≡ Stopped) → values_after x vs event ≡ take 1 vs
settles x vs event (inl flushed) = ap (values_after x vs) flushed
settles x vs event (inr stopped) = ap (values_after x vs) stopped

settled-values : (list : List Sector) (entries : List Entry) (x : ℕ) → EndsSettled entries → (vs : List Sector) × (values_of list entries x ≡ take 1 vs)
unfolding values_of
settled-values list entries x settled =
    let was : List Sector = fold (step x) (first_values list x) settled.before in (
      was,
      ap (λ es. fold (step x) (first_values list x) es) settled.is
          ∙ fold-append (step x) (first_values list x) settled.before (settled.entry ∷ []) ∙ settles x was settled.entry.event settled.event,
    )

-- what is judged there is judged by all entries
judged-all : (world : World) (entries : List Entry) (mark : ℕ) (c : Contents) → last_resized entries ≡ None
    → EndBy mark entries → ((k j : ℕ) → IsRefusedRightly world entries k j c → ⊥) → IsJudged world entries mark c → StandsFor world entries c
judged-all world entries mark c same ends unrefused judged = by_kind judged.judgement
  where
    made : made_by mark entries ≡ length entries
    made = all-made mark entries ends

    whole : (n : ℕ) → length entries ≤ n → take n entries ≡ entries
    whole n le = take_all n entries le

    by_list : (js : List Entry) → MayBeJudgedBy world entries (made_by mark entries) judged.j js → js ≡ entries
    by_list js (inl e) =
        let le : made_by mark entries ≤ judged.j = judged.made in
        e ∙ whole judged.j (omega (arith, le, made))
    by_list js (inr out) =
        let all : take (made_by mark entries) entries ≡ entries = whole (made_by mark entries) (omega (arith, made)) in
        let some : last_resized entries ≡ Some out.0 = subst (λ es. last_resized es ≡ Some out.0) all out.1.last in
        absurd (cc)

    by_kind : ((js : List Entry) × MayBeJudgedBy world entries (made_by mark entries) judged.j js × StandsFor world js c)
        ⊎ IsRefusedRightly world entries (made_by mark entries) judged.j c → StandsFor world entries c
    by_kind (inl found) = subst (λ js. StandsFor world js c) (by_list found.0 found.1) found.2
    by_kind (inr wrong) = absurd (unrefused (made_by mark entries) judged.j wrong)

opens-with : (world next : World) (entries : List Entry) → opening_list next ≡ stands world.scope (contents_at world next.first)
    → EndsSettled entries → StandsFor world entries (contents_at world next.first) → OpensWith next (opening_list world) entries
unfolding opening_list
opens-with world next entries same settled found = record {
  count = ap length same ∙ found.sized;
  each = λ x below.
      let short : x < length (stands world.scope (contents_at world next.first)) = subst (λ l. x < length l) same below in
      let value : (vs : List Sector) × (values_of (opening_list world) entries x ≡ take 1 vs) = settled-values (opening_list world) entries x settled in
      ap (λ l. slice_index_or l x []) same
      ∙ one-value value.0 (slice_index_or (stands world.scope (contents_at world next.first)) x [])
      (subst (λ vs. IsIn vs (slice_index_or (stands world.scope (contents_at world next.first)) x [])) value.1 (found.sectors x short))
      ∙ ap (λ vs. slice_index_or vs 0 []) (sym value.1);
}

-- what the next epoch opens with is refused for nothing in the former one's world too
accepted-before : (world next : World) (entries : List Entry) → IsReopened world entries next → OpensAccepted next → verdict world.scope (contents_at world next.first) ≡ None
accepted-before world next entries again accepted = sym (rw again.scope (rw again.start (rw again.tape refl))) ∙ accepted

pub settled-found : SettledListsAreFound
unfolding opening_list
settled-found world next entries last resized safe by_last again accepted settled =
    let c : Contents = contents_at world next.first in
    let image : IsImage world.start world.tape next.first c = contents-image world next.first again.within in
    let at = safe next.first again.later by_last again.flushes in
    let there : contents_at next next.first ≡ c = (λ i. contents (again.start i) (again.tape i) next.first) in
    let here : verdict next.scope c ≡ None = sym (ap (verdict next.scope) there) ∙ accepted in
    let found : StandsFor world entries c = judged-all world entries next.first c resized again.made (unrefused world next entries c again.array here) (at c image) in
    let r = accepted-roles world.scope c found.assembles in
    opens-with world next entries (ap (stands next.scope) there ∙ found-same world.scope next.scope c again.array here r.0 r.1) settled found
  where
    unrefused : (world next : World) (entries : List Entry) (c : Contents) → IsSameArray world.scope next.scope c → verdict next.scope c ≡ None → (k j : ℕ) → IsRefusedRightly world entries k j c → ⊥
    unrefused world next entries c same here k j (inl dirty) = not-degraded world.scope next.scope c same here dirty.role dirty.refused
    unrefused world next entries c same here k j (inr missing) = not-missing world.scope next.scope c same here missing.count missing.tolerance missing.refused

-- what the former one's contents there are, the next one opens with
opens-sound : (world next : World) → next.start ≡ world.start → next.tape ≡ world.tape → next.scope ≡ world.scope
    → IfSome (reading world.scope (contents_at world next.first)) (IsSound world.scope (contents_at world next.first)) → OpensSound next
unfolding reading_at
opens-sound world next start tape scope sound = rw scope (rw start (rw tape sound))

pub sound-found : SoundArraysAreFound
sound-found world next entries last fit stays by_last again accepted =
    opens-sound world next again.start again.tape again.scope
    (stays fit next.first again.later by_last again.flushes (contents_at world next.first) (contents-image world next.first again.within) (accepted-before world next entries again accepted))
