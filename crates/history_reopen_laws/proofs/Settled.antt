-- What was flushed or stopped is found again, also where the length changed since the opening.
use Rattle.std.proofs.Common.{◌≡◌, ℕ, suc, ◌<◌, ◌≤◌, ◌⊎◌, inl, inr, Bool, true, false, Option, Some, None, List, [], ◌∷◌, ◌++◌, length, take, fold, refl, sym, ap, ◌∙◌, subst, arith, take_all}
use Rattle.std.specs.Prelude.{if◌then◌else◌, slice_index_or, remove}
use Rattle.std.specs.Option.{option_map_or}
use Rattle.std.proofs.lemmas.List.Sums.{fold-append}
use Rattle.std.proofs.lemmas.Bool.{le-leb}
use Rattle.history.specs.raid_types_Sectors.{Sector}
use Rattle.history.specs.bank_Tape.{Contents, contents, IsImage, IsIn}
use Rattle.history.proofs.bank_Images.{drawn-image, disk-some}
use Rattle.history.specs.declared.events.Event.{Event}
use Rattle.history.specs.declared.events.Event.TheVariants.{Flushed, Stopped}
use Rattle.history.specs.declared.events.Entry.{Entry}
use Rattle.history.specs.World.{World, contents_at, opening_list}
use Rattle.history.specs.Stands.{stands, verdict}
use Rattle.history.specs.Flat.{values_of, values_after, first_values}
use Rattle.history.specs.CrashSafe.{is_resized, last_resized, made_by, MayBeLeftOut, MayBeJudgedBy, StandsFor, IsJudged, IsRefusedRightly}
use Rattle.history.specs.Growing.{EndBy}
use Rattle.history.proofs.FewerSlots.{accepted-roles, found-same, not-missing, not-degraded}
use Rattle.history.specs.Reopened.{IsSameArray, EndsSettled, OpensWith}
use Rattle.history_reopen_laws.specs.Later.{SettledListsAreFoundLater}

-- the contents at a mark are an image there
contents-image : (world : World) (mark : ℕ) → mark ≤ length world.tape → IsImage world.start world.tape mark (contents_at world mark)
contents-image world mark within = drawn-image world.start world.tape mark (contents_at world mark) within (λ s k. disk-some world.start (take mark world.tape) s k)

-- all entries were made by a mark behind them
all-made : (mark : ℕ) (entries : List Entry) → EndBy mark entries → made_by mark entries ≡ length entries
all-made mark [] ends = refl
all-made mark (e ∷ entries) ends = rw (le-leb e.end mark ends.0) (let rest : made_by mark entries ≡ length entries = all-made mark entries ends.1 in omega (arith, rest))

-- behind a flush or a stop each sector has its present value alone
one-value : (vs : List Sector) (v : Sector) → IsIn (take 1 vs) v → v ≡ slice_index_or (take 1 vs) 0 []
one-value [] v none = absurd none
one-value (w ∷ vs) v (inl e) = e
one-value (w ∷ vs) v (inr none) = absurd none

abbrev step : ℕ → List Sector → Entry → List Sector
step x values e = values_after x values e.event

settles : (x : ℕ) (vs : List Sector) (event : Event) → (event ≡ Flushed) ⊎ (event ≡ Stopped) → values_after x vs event ≡ take 1 vs
settles x vs event (inl flushed) = ap (values_after x vs) flushed
settles x vs event (inr stopped) = ap (values_after x vs) stopped

settled-values : (list : List Sector) (entries : List Entry) (x : ℕ) → EndsSettled entries → (vs : List Sector) × (values_of list entries x ≡ take 1 vs)
unfolding values_of
settled-values list entries x settled =
    let was : List Sector = fold (step x) (first_values list x) settled.before in (
      was,
      ap (λ es. fold (step x) (first_values list x) es) settled.is
          ∙ fold-append (step x) (first_values list x) settled.before (settled.entry ∷ []) ∙ settles x was settled.entry.event settled.event,
    )

-- ---- without the last change of the length

-- a flush or a stop stays the last of the entries without it
abbrev StaysLast : List Entry → Entry → Type 0
StaysLast entries e = (before : List Entry) × (entries ≡ before ++ e ∷ [])

unsized : (event : Event) → (event ≡ Flushed) ⊎ (event ≡ Stopped) → is_resized event ≡ false
unsized event (inl flushed) = ap is_resized flushed
unsized event (inr stopped) = ap is_resized stopped

last-stays : (xs : List Entry) (e : Entry) (place : ℕ) → is_resized e.event ≡ false → last_resized (xs ++ e ∷ []) ≡ Some place → StaysLast (remove (xs ++ e ∷ []) place) e
last-stays [] e place none is = absurd (let clash : ◌≡◌ {A = Option ℕ} None (Some place) = sym (ap (λ (b : Bool). if b then Some 0 else None) none) ∙ is in cc)
last-stays (x ∷ xs) e place none is = by (last_resized (xs ++ e ∷ [])) (λ p found. last-stays xs e p none found) (is_resized x.event) is
  where
    first : ◌≡◌ {A = Option ℕ} (Some 0) (Some place) → StaysLast (remove (x ∷ (xs ++ e ∷ [])) place) e
    first same = let zero_is : 0 ≡ place = cc in subst (λ (n : ℕ). StaysLast (remove (x ∷ (xs ++ e ∷ [])) n) e) zero_is (xs, refl)

    later : (p : ℕ) → StaysLast (remove (xs ++ e ∷ []) p) e → ◌≡◌ {A = Option ℕ} (Some (suc p)) (Some place) → StaysLast (remove (x ∷ (xs ++ e ∷ [])) place) e
    later p was same =
        let place_is : suc p ≡ place = cc in
        subst (λ (n : ℕ). StaysLast (remove (x ∷ (xs ++ e ∷ [])) n) e) place_is (x ∷ was.0, ap (λ (l : List Entry). x ∷ l) was.1)

    by : (o : Option ℕ) → ((p : ℕ) → o ≡ Some p → StaysLast (remove (xs ++ e ∷ []) p) e) → (b : Bool) → option_map_or (λ place. Some (suc place)) o (if b then Some 0 else None) ≡ Some place
        → StaysLast (remove (x ∷ (xs ++ e ∷ [])) place) e
    by (Some p) found b same = later p (found p refl) same
    by None found true same = first same
    by None found false same = absurd (let clash : ◌≡◌ {A = Option ℕ} None (Some place) = same in cc)

settled-without : (entries : List Entry) (place : ℕ) → EndsSettled entries → last_resized entries ≡ Some place → EndsSettled (remove entries place)
settled-without entries place settled is =
    let stays = last-stays settled.before settled.entry place (unsized settled.entry.event settled.event) (ap last_resized (sym settled.is) ∙ is) in
    record { before = stays.0; entry = settled.entry; is = ap (λ (l : List Entry). remove l place) settled.is ∙ stays.1; event = settled.event }

-- ---- what is judged

-- what is judged there is judged by all entries, or by those without a change of the length that no slot kept
judged-all : (world : World) (entries : List Entry) (mark : ℕ) (c : Contents)
    → EndBy mark entries → ((k j : ℕ) → IsRefusedRightly world entries k j c → ⊥) → IsJudged world entries mark c
    → StandsFor world entries c ⊎ ((place : ℕ) × MayBeLeftOut world entries (length entries) place × StandsFor world (remove entries place) c)
judged-all world entries mark c ends unrefused judged = by_kind judged.judgement
  where
    Found : Type 0
    Found = StandsFor world entries c ⊎ ((place : ℕ) × MayBeLeftOut world entries (length entries) place × StandsFor world (remove entries place) c)

    made : made_by mark entries ≡ length entries
    made = all-made mark entries ends

    all : take judged.j entries ≡ entries
    all =
        let le : made_by mark entries ≤ judged.j = judged.made in
        take_all judged.j entries (omega (arith, le, made))

    by_list : (js : List Entry) → MayBeJudgedBy world entries (made_by mark entries) judged.j js → StandsFor world js c → Found
    by_list js (inl e) found = inl (subst (λ (l : List Entry). StandsFor world l c) (e ∙ all) found)
    by_list js (inr out) found = inr (
      out.0,
      subst (λ (n : ℕ). MayBeLeftOut world entries n out.0) made out.1,
      subst (λ (l : List Entry). StandsFor world l c) (out.2 ∙ ap (λ (l : List Entry). remove l out.0) all) found,
    )

    by_kind : ((js : List Entry) × MayBeJudgedBy world entries (made_by mark entries) judged.j js × StandsFor world js c)
        ⊎ IsRefusedRightly world entries (made_by mark entries) judged.j c → Found
    by_kind (inl found) = by_list found.0 found.1 found.2
    by_kind (inr wrong) = absurd (unrefused (made_by mark entries) judged.j wrong)

opens-with : (world next : World) (entries : List Entry) → opening_list next ≡ stands world.scope (contents_at world next.first)
    → EndsSettled entries → StandsFor world entries (contents_at world next.first) → OpensWith next (opening_list world) entries
unfolding opening_list
opens-with world next entries same settled found = record {
  count = ap length same ∙ found.sized;
  each = λ x below.
      let short : x < length (stands world.scope (contents_at world next.first)) = subst (λ l. x < length l) same below in
      let value : (vs : List Sector) × (values_of (opening_list world) entries x ≡ take 1 vs) = settled-values (opening_list world) entries x settled in
      ap (λ l. slice_index_or l x []) same
      ∙ one-value value.0 (slice_index_or (stands world.scope (contents_at world next.first)) x [])
      (subst (λ vs. IsIn vs (slice_index_or (stands world.scope (contents_at world next.first)) x [])) value.1 (found.sectors x short))
      ∙ ap (λ vs. slice_index_or vs 0 []) (sym value.1);
}

pub settled-found-later : SettledListsAreFoundLater
unfolding opening_list
settled-found-later world next entries last safe by_last again accepted settled =
    let c : Contents = contents_at world next.first in
    let image : IsImage world.start world.tape next.first c = contents-image world next.first again.within in
    let at = safe next.first again.later by_last again.flushes in
    let there : contents_at next next.first ≡ c = (λ i. contents (again.start i) (again.tape i) next.first) in
    let here : verdict next.scope c ≡ None = sym (ap (verdict next.scope) there) ∙ accepted in
    elim (judged-all world entries next.first c again.made (unrefused world next entries c again.array here) (at c image)) [
      | inl found ↦ inl (opens-with world next entries (opens there here found.assembles) settled found)
      | inr (place, out, found) ↦ inr (
        place,
        out,
        opens-with world next (remove entries place) (opens there here found.assembles)
            (settled-without entries place settled (ap last_resized (sym (take_all (length entries) entries (omega arith))) ∙ out.last)) found,
      )
    ]
  where
    opens : contents_at next next.first ≡ contents_at world next.first → verdict next.scope (contents_at world next.first) ≡ None → verdict world.scope (contents_at world next.first) ≡ None → opening_list next ≡ stands world.scope (contents_at world next.first)
    opens there here assembles =
        let r = accepted-roles world.scope (contents_at world next.first) assembles in
        ap (stands next.scope) there ∙ found-same world.scope next.scope (contents_at world next.first) again.array here r.0 r.1

    unrefused : (world next : World) (entries : List Entry) (c : Contents) → IsSameArray world.scope next.scope c → verdict next.scope c ≡ None → (k j : ℕ) → IsRefusedRightly world entries k j c → ⊥
    unrefused world next entries c same here k j (inl dirty) = not-degraded world.scope next.scope c same here dirty.role dirty.refused
    unrefused world next entries c same here k j (inr missing) = not-missing world.scope next.scope c same here missing.count missing.tolerance missing.refused
