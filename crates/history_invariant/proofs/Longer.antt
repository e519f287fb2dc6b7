-- Entries of a call that goes on stay legal with more of its entries behind them, and as the tape grows.
use Rattle.std.proofs.Common.{◌≡◌, inl, inr, ℕ, zero, suc, ◌+◌, ◌*◌, ◌⊎◌, ◌≤◌, ◌||◌, Bool, true, false, not, cond, Option, Some, None, List, [], ◌∷◌, ◌++◌, length, take, fold, unwrap_or, MatchOption, MatchBool, refl, sym, ◌∙◌, ap, ap₂, subst, append_assoc}
use Rattle.std.specs.Prelude.{IfSome, IsTrue, filter, ⊤}
use Rattle.std.specs.Option.{option_map_or}
use Rattle.std.specs.List.{list_any}
use Rattle.std.proofs.lemmas.List.Folds.{list_any-append}
use Rattle.array_call_specs.specs.raid_types_Sectors.{Sector}
use Rattle.array_call_specs.specs.raid_types_Search.{count_below, any_below, all_below}
use Rattle.array_call_specs.specs.raid_types_Shapes.{tolerance_of, data_disks}
use Rattle.array_call_specs.specs.raid_types_the_Refusal.{Refusal}
use Rattle.array_call_specs.specs.raid_types_the_Refusal_TheVariants.{PastEnd, TooManyMissing, NotResynced}
use Rattle.array_call_specs.proofs.raid_types_Counted.{all_below-implied}
use Rattle.array_call_specs.specs.bank_the_Operation.{Operation}
use Rattle.array_call_specs.specs.bank_Tape.{Contents}
use Rattle.array_call_specs.specs.sb_specs_Reading.{Reading, role_count, target_of}
use Rattle.array_call_specs.specs.history_the_Entry.{Entry}
use Rattle.array_call_specs.specs.history_the_Event.{Event}
use Rattle.array_call_specs.specs.history_the_Event_TheVariants.{Lost, SpareLost, Rebuilt, Resized, Step, Refused}
use Rattle.array_call_specs.specs.history_the_LostCause_TheVariants.{Fault}
use Rattle.array_call_specs.specs.history_the_StepKind.{StepKind}
use Rattle.array_call_specs.specs.history_the_StepKind_TheVariants.{Begun, Entered, Finished, WindowFinished}
use Rattle.array_call_specs.specs.history_Flat.{is_same_call, last_of, length_of, visible_of}
use Rattle.array_call_specs.specs.history_Growing.{grown, EndBy}
use Rattle.array_call_specs.specs.history_Legal.{is_loss, last_but_losses, is_all_gone, before_last_step, end_before, IsLengthOfTarget, IsLengthOfLevel, IsUnkeptLength, ChangesLength, IsResizedBy, IsResizedAfter, IsResized, call_before, disturbs, told_left, known_left, is_free_step, IsStep, level_after, level_at, IsRefusedRight, IsLegalEvent}
use Rattle.array_call_specs.specs.history_Losses.{regains, gives_back, is_gone_after}
use Rattle.array_call_specs.specs.history_Stands.{stands}
use Rattle.array_call_specs.specs.history_World.{World, contents_at, reading_at}
use Rattle.history_invariant.specs.Recorded.{MayGoOn, IsLengthKept, gives_some}
use Rattle.history_invariant.proofs.Tests.{neither, or-left}
use Rattle.history_invariant.proofs.Growing.{contents-grown, reading-grown, opening-grown, unsynced-grown, gone-grown}
use Rattle.history_invariant.proofs.Ledgers.{any-gone}
use Rattle.history_invariant.proofs.Marks.{ends-both}

-- ---- what gives no role a holder

gives-nothing : (found : Option Reading) (role : ℕ) (event : Event) → gives_some event ≡ false → gives_back found role event ≡ false
gives-nothing found role (Rebuilt rebuilt) none = absurd (cc)
gives-nothing found role (Step Begun left) none = absurd (cc)
gives-nothing found role event none = refl

pub regains-none : (world : World) (role : ℕ) (xs : List Entry) → list_any (λ e. gives_some e.event) xs ≡ false → list_any (regains world role) xs ≡ false
regains-none world role [] none = refl
regains-none world role (x ∷ xs) none =
    let parts = neither (gives_some x.event) (list_any (λ e. gives_some e.event) xs) none in
    ap₂ (λ (a b : Bool). a || b) (gives-nothing (reading_at world x.end) role x.event parts.0) (regains-none world role xs parts.1)

-- what is gone stays so behind such entries
pub gone-still : (world : World) (role : ℕ) (xs ys : List Entry) → list_any (λ e. gives_some e.event) ys ≡ false → is_gone_after world xs role ≡ true → is_gone_after world (xs ++ ys) role ≡ true
gone-still world role xs ys none is = any-gone world role xs ys (regains-none world role ys none) (or-left (is_gone_after world xs role) _ is)

-- ---- where entries end

filter-ends : (mark : ℕ) (p : Entry → Bool) (xs : List Entry) → EndBy mark xs → EndBy mark (filter p xs)
filter-ends mark p [] ends = tt
filter-ends mark p (x ∷ xs) ends = by (p x) (filter-ends mark p xs ends.1)
  where
    by : (b : Bool) → EndBy mark (filter p xs) → EndBy mark (cond b (x ∷ filter p xs) (filter p xs))
    by true rest = (ends.0, rest)
    by false rest = rest

pub take-ends : (mark n : ℕ) (xs : List Entry) → EndBy mark xs → EndBy mark (take n xs)
take-ends mark zero xs ends = tt
take-ends mark (suc n) [] ends = tt
take-ends mark (suc n) (x ∷ xs) ends = (ends.0, take-ends mark n xs ends.1)

last-within : (mark first : ℕ) (xs : List Entry) → first ≤ mark → EndBy mark xs → option_map_or (λ e. e.end) (last_of xs) first ≤ mark
last-within mark first [] low ends = low
last-within mark first (x ∷ xs) low ends = by (last_of xs) (last-within mark x.end xs ends.0 ends.1)
  where
    by : (o : Option Entry) → option_map_or (λ e. e.end) o x.end ≤ mark → (unwrap_or o x).end ≤ mark
    by None le = le
    by (Some e) le = le

-- ---- a world that grows

module _ (world : World) (ops : List Operation) (within : world.first ≤ length world.tape) where
  abbrev later : World
  later = grown world ops

  gone-alike : (before : List Entry) → EndBy (length world.tape) before → is_gone_after later before ≡ is_gone_after world before
  gone-alike before ends = λ i role. gone-grown world ops before role ends i

  level-alike : (before : List Entry) → level_at later before ≡ level_at world before
  level-alike before = ap (λ (found : Option Reading). fold (λ level e. level_after level e.event) (option_map_or (λ r. r.newest.level) found 5) before) (reading-grown world ops world.first within)

  refused-grown : (before : List Entry) (refusal : Refusal) → EndBy (length world.tape) before → IsRefusedRight world before refusal → IsRefusedRight later before refusal
  refused-grown before (PastEnd visible) ends is = is ∙ ap (λ (l : List Sector). visible_of (length l) before) (sym (opening-grown world ops within))
  refused-grown before (TooManyMissing count tolerance) ends is = record {
    above = is.above;
    gone = subst (λ (gone : ℕ → Bool). count ≤ count_below 32 gone) (sym (gone-alike before ends)) is.gone;
    tolerated = is.tolerated ∙ ap tolerance_of (sym (level-alike before));
  }
  refused-grown before (NotResynced role) ends is = (gone-grown world ops before role ends ∙ is.0, unsynced-grown world ops within before ∙ is.1)
  refused-grown before refusal ends is = tt

  free-grown : (before : List Entry) (kind : StepKind) → EndBy (length world.tape) before → is_free_step later before kind ≡ is_free_step world before kind
  free-grown before WindowFinished ends = refl
  free-grown before Entered ends = unsynced-grown world ops within before
  free-grown before Finished ends = ap (λ (gone : ℕ → Bool). any_below 32 gone) (gone-alike before ends)
  free-grown before kind ends = refl

  -- ---- a change of length

  -- the place of the step before it
  end-within : (before : List Entry) → EndBy (length world.tape) before → end_before world before ≤ length world.tape
  end-within before ends = last-within (length world.tape) world.first (filter (λ e. not (is_loss e.event)) before) within (filter-ends (length world.tape) (λ e. not (is_loss e.event)) before ends)

  target-grown : (before : List Entry) (n : ℕ) → EndBy (length world.tape) before → IsLengthOfTarget world before n → IsLengthOfTarget later before n
  target-grown before n ends is =
      subst (λ (found : Option Reading). MatchOption (option_map_or (λ r. target_of r.newest) found None) ⊥ (λ to. n ≡ data_disks to * option_map_or (λ r. r.newest.size) found 0))
      (sym (reading-grown world ops (end_before world before) (end-within before ends))) is

  unkept-grown : (before : List Entry) (kind : StepKind) (end n : ℕ) → EndBy (length world.tape) before → end ≤ length world.tape → IsUnkeptLength world before kind end n → IsUnkeptLength later before kind end n
  unkept-grown before Begun end n ends made is =
      subst (λ (found : Option Reading). MatchOption found ⊥ (λ r. IsLengthOfLevel r.newest.level r.newest.size n)) (sym (reading-grown world ops end made)) is
  unkept-grown before Finished end n ends made is = target-grown (before_last_step before) n (take-ends (length world.tape) _ before ends) is
  unkept-grown before kind end n ends made is = absurd is

  pub all-gone : (end : ℕ) (xs ys : List Entry) → end ≤ length world.tape → EndBy (length world.tape) xs → list_any (λ e. gives_some e.event) ys ≡ false
      → is_all_gone world end xs ≡ true → is_all_gone later end (xs ++ ys) ≡ true
  all-gone end xs ys made ends none is = ap (λ (found : Option Reading). option_map_or (λ r. all_below (role_count r.newest) (is_gone_after later (xs ++ ys))) found false) (reading-grown world ops end made) ∙ by (reading_at world end) is
    where
      by : (found : Option Reading) → option_map_or (λ r. all_below (role_count r.newest) (is_gone_after world xs)) found false ≡ true
          → option_map_or (λ r. all_below (role_count r.newest) (is_gone_after later (xs ++ ys))) found false ≡ true
      by None is = is
      by (Some r) is = all_below-implied (role_count r.newest) (is_gone_after world xs) (is_gone_after later (xs ++ ys))
          (λ role gone. gone-still later role xs ys none (gone-grown world ops xs role ends ∙ gone)) is

  -- it is legal still, where some slot kept it, or no role is given a holder behind it
  module _ (before : List Entry) (e : Entry) (rest added : List Entry) (made : e.end ≤ length world.tape) (ends : EndBy (length world.tape) before) (behind : EndBy (length world.tape) rest) where
    longer : before ++ e ∷ (rest ++ added) ≡ (before ++ e ∷ rest) ++ added
    longer = sym (append_assoc before (e ∷ rest) added)

    resized-by : (kind : StepKind) (n : ℕ) → (n ≡ length (stands world.scope (contents_at world e.end))) ⊎ (list_any (λ e. gives_some e.event) added ≡ false)
        → IsResizedBy world before e rest kind n → IsResizedBy later before e (rest ++ added) kind n
    resized-by kind n kept is = record {
      changes = subst (λ (l : List Sector). ChangesLength kind (length_of (length l) before) n) (sym (opening-grown world ops within)) is.changes;
      kept = by kept is.kept;
    }
      where
        same : length (stands world.scope (contents_at world e.end)) ≡ length (stands world.scope (contents_at later e.end))
        same = ap (λ (c : Contents). length (stands world.scope c)) (sym (contents-grown world ops e.end made))

        by : (n ≡ length (stands world.scope (contents_at world e.end))) ⊎ (list_any (λ e. gives_some e.event) added ≡ false)
            → (n ≡ length (stands world.scope (contents_at world e.end))) ⊎ (IsTrue (is_all_gone world e.end (before ++ e ∷ rest)) × IsUnkeptLength world before kind e.end n)
            → (n ≡ length (stands world.scope (contents_at later e.end))) ⊎ (IsTrue (is_all_gone later e.end (before ++ e ∷ (rest ++ added))) × IsUnkeptLength later before kind e.end n)
        by (inl by_slot) was = inl (by_slot ∙ same)
        by (inr none) (inl by_slot) = inl (by_slot ∙ same)
        by (inr none) (inr unkept) = inr (
          ap (is_all_gone later e.end) longer ∙ all-gone e.end (before ++ e ∷ rest) added made (ends-both (length world.tape) before (e ∷ rest) ends (made, behind)) none unkept.0,
          unkept-grown before kind e.end n ends made unkept.1,
        )

    resized-after : (n : ℕ) (event : Event) → (n ≡ length (stands world.scope (contents_at world e.end))) ⊎ (list_any (λ e. gives_some e.event) added ≡ false)
        → IsResizedAfter world before e rest n event → IsResizedAfter later before e (rest ++ added) n event
    resized-after n (Step kind left) kept is = resized-by kind n kept is
    resized-after n event kept is = absurd is

    resized-longer : (n : ℕ) → (n ≡ length (stands world.scope (contents_at world e.end))) ⊎ (list_any (λ e. gives_some e.event) added ≡ false)
        → IsResized world before e rest n → IsResized later before e (rest ++ added) n
    resized-longer n kept is = by (last_but_losses before) is
      where
        by : (o : Option Entry) → MatchOption o ⊥ (λ last. IsTrue (is_same_call last e) × IsResizedAfter world before e rest n last.event)
            → MatchOption o ⊥ (λ last. IsTrue (is_same_call last e) × IsResizedAfter later before e (rest ++ added) n last.event)
        by None is = absurd is
        by (Some last) is = (is.0, resized-after n last.event kept is.1)

    -- ---- the steps left

    known-longer : (P : ℕ → Type 0) → IfSome (known_left before e rest) P → IfSome (known_left before e (rest ++ added)) P
    known-longer P was =
        subst (λ (b : Bool). IfSome (cond b None (told_left before)) P)
        (sym (ap (λ (l : List Entry). list_any (λ e. disturbs e.event) l) (sym (append_assoc (call_before before e) rest added)) ∙ list_any-append (λ e. disturbs e.event) (call_before before e ++ rest) added))
        (by (list_any (λ e. disturbs e.event) (call_before before e ++ rest)) (list_any (λ e. disturbs e.event) added) was)
      where
        by : (a b : Bool) → IfSome (cond a None (told_left before)) P → IfSome (cond (a || b) None (told_left before)) P
        by true b was = tt
        by false true was = tt
        by false false was = was

    step-longer : (kind : StepKind) (left : ℕ) → IsStep world before e rest kind left → IsStep later before e (rest ++ added) kind left
    step-longer kind left is =
        subst (λ (b : Bool). MatchBool b ⊤ (IfSome (known_left before e (rest ++ added)) (λ n. left + 1 ≡ n))) (sym (free-grown before kind ends)) (by (is_free_step world before kind) is)
      where
        by : (b : Bool) → MatchBool b ⊤ (IfSome (known_left before e rest) (λ n. left + 1 ≡ n)) → MatchBool b ⊤ (IfSome (known_left before e (rest ++ added)) (λ n. left + 1 ≡ n))
        by true is = tt
        by false is = known-longer (λ n. left + 1 ≡ n) is

    -- ---- an event

    kept-or : (event : Event) → IsLengthKept world e.end event ⊎ (list_any (λ e. gives_some e.event) added ≡ false) → MayGoOn event → IsLegalEvent world before e rest event → IsLegalEvent later before e (rest ++ added) event
    kept-or (Resized n) kept may is = resized-longer n kept is
    kept-or (Step kind left) kept may is = step-longer kind left is
    kept-or (Lost role Fault) kept may is = tt
    kept-or (SpareLost slot) kept may is = tt
    kept-or (Rebuilt role) kept may is = tt
    kept-or (Refused refusal) kept may is = refused-grown before refusal ends is
    kept-or event kept may is = absurd may

    pub event-longer : IsLengthKept world e.end e.event ⊎ (list_any (λ e. gives_some e.event) added ≡ false) → MayGoOn e.event → IsLegalEvent world before e rest e.event
        → IsLegalEvent later before e (rest ++ added) e.event
    event-longer kept may is = kept-or e.event kept may is
