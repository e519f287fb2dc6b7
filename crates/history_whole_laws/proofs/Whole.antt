-- A legal history of an array that stays whole tells no lack.
use Rattle.std.proofs.Common.{◌≡◌, ℕ, ◌+◌, ◌<◌, ◌≤◌, Bool, true, false, ◌&&◌, ◌==◌, cond, List, [], ◌∷◌, ◌++◌, length, take, min, refl, sym, ap, ◌∙◌, subst, arith, Option, None, Some, unwrap_or, MatchOption, append_assoc}
use Rattle.std.specs.Prelude.{IfSome, IsTrue, IsFalse, not}
use Rattle.std.specs.List.{All, list_any}
use Rattle.std.specs.Option.{option_map_or}
use Rattle.std.proofs.lemmas.List.{length-take, take-take}
use Rattle.std.proofs.lemmas.List.Elements.{All-nil, All-cons, All-head, All-tail, All-push}
use Rattle.std.proofs.lemmas.List.Sums.{sum_by-append}
use Rattle.history.specs.bank_Tape.{value_after}
use Rattle.history.specs.bank_the_Operation.{Operation}
use Rattle.history.specs.raid_types_the_Refusal.{Refusal}
use Rattle.history.specs.raid_types_the_Refusal_TheVariants.{TooManyMissing, NotResynced}
use Rattle.history.specs.raid_types_Search.{count_below}
use Rattle.history.specs.raid_types_Shapes.{tolerance_of}
use Rattle.history.specs.sb_specs_Reading.{Reading, reading, is_clean, is_whole, role_state, role_count}
use Rattle.history.specs.declared.events.Event.{Event}
use Rattle.history.specs.declared.events.Event.TheVariants.{Torn, Lost, Failed, Stepped, Refused}
use Rattle.history.specs.declared.events.LostCause.TheVariants.{Absent, Recovering, Command, Fault}
use Rattle.history.specs.declared.events.Entry.{Entry}
use Rattle.history.specs.Flat.{is_same_call, rest_of_call, last_of}
use Rattle.history.specs.Legal.{IsAbsentAtFirst, IsFailed, IsRefusedRight, IsLegalEvent, call_end, level_at, AreLegal}
use Rattle.history.specs.Losses.{was_dirty, is_resync_end, is_gone_after}
use Rattle.history.specs.Transfers.{last_end_from, IsTooMany}
use Rattle.history.specs.World.{World, until, reading_at}
use Rattle.history.proofs.OneShapeLegal.{last-snoc}
use Rattle.history_whole_laws.specs.Unfailed.{TellsNoFailure}
use Rattle.history_whole_laws.specs.Whole.{OpensWhole, IsNoFail, LosesNone, is_takeover, takeovers, IsForNoLack, LacksNothing, WholeArraysLackNothing, NoRoleIsGone}
use Rattle.history_whole_laws.proofs.Gone.{gone-count, gone-none}

-- ---- lists

module _ (P : Entry → Type 0) where
  rest-all : (e : Entry) (xs : List Entry) → All P xs → All P (rest_of_call e xs)
  rest-all e [] all = All-nil P
  rest-all e (x ∷ xs) all = by (is_same_call e x) (rest-all e xs (All-tail P x xs all))
    where
      by : (b : Bool) → All P (rest_of_call e xs) → All P (cond b (x ∷ rest_of_call e xs) [])
      by true rest = All-cons P x (rest_of_call e xs) (All-head P x xs all) rest
      by false rest = All-nil P

  last-all : (xs : List Entry) → All P xs → IfSome (last_of xs) P
  last-all [] all = tt
  last-all (x ∷ xs) all = by (last_of xs) (last-all xs (All-tail P x xs all))
    where
      by : (last : Option Entry) → IfSome last P → P (unwrap_or last x)
      by None rest = All-head P x xs all
      by (Some l) rest = rest

end-snoc : (first : ℕ) (xs : List Entry) (e : Entry) → last_end_from first (xs ++ e ∷ []) ≡ e.end
end-snoc first xs e = ap (λ (o : Option Entry). option_map_or (λ e. e.end) o first) (last-snoc xs e)

-- ---- the opening, as it is seen from a later mark

module _ (world : World) (mark : ℕ) (late : world.first ≤ mark) where
  reading-until : reading_at (until mark world) world.first ≡ reading_at world world.first
  unfolding reading_at
  reading-until = ap (λ (ops : List Operation). reading world.scope (λ s k. value_after s k (world.start s k) ops)) (take-take world.first mark world.tape late)

  whole-until : OpensWhole world → OpensWhole (until mark world)
  whole-until opened = subst (λ (found : Option Reading). IfSome found (λ r. (role : ℕ) → role < role_count r.newest → IsTrue (is_whole (role_state r role)))) (sym reading-until) opened

  dirty-until : was_dirty (until mark world) ≡ was_dirty world
  dirty-until = ap (λ (found : Option Reading). option_map_or (λ r. not (is_clean r.newest)) found false) reading-until

-- ---- one entry

-- no role was missing at the opening
pub none-absent : (world : World) (role : ℕ) → OpensWhole world → IsAbsentAtFirst world role → ⊥
none-absent world role opened absent = by (reading_at world world.first) opened absent
  where
    by : (found : Option Reading) → IfSome found (λ r. (role : ℕ) → role < role_count r.newest → IsTrue (is_whole (role_state r role)))
        → MatchOption found ⊥ (λ r. (role < role_count r.newest) × IsFalse (is_whole (role_state r role))) → ⊥
    by None opened absent = absent
    by (Some r) opened absent = let whole = opened role absent.0 in let not-whole = absent.1 in absurd (cc)

none-failed : (role : ℕ) (event : Event) → IsNoFail event → IsFailed role event → ⊥
none-failed role (Failed failed) none failed-by = none
none-failed role event none failed-by = failed-by

none-too_many : (event : Event) → LacksNothing event → IsTooMany event → ⊥
none-too_many (Refused (TooManyMissing count tolerance)) none many = none
none-too_many event none many = many

one-tolerated : (level : ℕ) → 1 ≤ tolerance_of level
one-tolerated level = by (level == 6)
  where
    by : (b : Bool) → 1 ≤ cond b 2 1
    by true = omega arith
    by false = omega arith

first-of : (a b : Bool) → (a && b) ≡ true → a ≡ true
first-of true b h = refl
first-of false b h = absurd (cc)

-- by the entries before it, and those behind it in its call
module _ (world : World) (before : List Entry) (e : Entry) (rest : List Entry) where
  -- it tells no role lost
  event-keeps : OpensWhole world → All (λ e. IsNoFail e.event) rest → (event : Event) → IsLegalEvent world before e rest event → TellsNoFailure event → LosesNone event
  event-keeps opened unfailed (Lost role Absent) legal none = none-absent world role opened legal.missing
  event-keeps opened unfailed (Lost role Recovering) legal none = none-absent world role opened legal.missing
  event-keeps opened unfailed (Lost role Command) legal none = by (last_of rest) (last-all (λ e. IsNoFail e.event) rest unfailed) legal
    where
      by : (last : Option Entry) → IfSome last (λ e. IsNoFail e.event) → MatchOption last ⊥ (λ last. IsFailed role last.event) → ⊥
      by None none failed = failed
      by (Some l) none failed = none-failed role l.event none failed
  event-keeps opened unfailed (Lost role Fault) legal none = none
  event-keeps opened unfailed event legal none = tt

  -- nor a refusal for what is missing
  refused-right : All (λ e. LosesNone e.event) before → takeovers before ≤ 1 → (was_dirty world ≡ true → takeovers before ≡ 0) → (refusal : Refusal) → IsRefusedRight world before refusal → IsForNoLack refusal
  refused-right kept once synced (TooManyMissing count tolerance) right =
      let above : tolerance < count = right.above in
      let few : count ≤ count_below 32 (is_gone_after world before) = right.gone in
      let gone : count_below 32 (is_gone_after world before) ≤ takeovers before = gone-count world before kept in
      let least : 1 ≤ tolerance_of (level_at world before) = one-tolerated (level_at world before) in
      let same : tolerance ≡ tolerance_of (level_at world before) = right.tolerated in
      absurd (omega (arith, above, few, gone, least, same, once))
  refused-right kept once synced (NotResynced role) right =
      let none : is_gone_after world before role ≡ false = gone-none world role before kept (synced (first-of (was_dirty world) (not (list_any (λ e. is_resync_end e.event) before)) right.1)) in
      let gone : is_gone_after world before role ≡ true = right.0 in absurd (cc)
  refused-right kept once synced refusal right = tt

  -- nor a torn write
  event-lacks : All (λ e. LosesNone e.event) before → takeovers before ≤ 1 → (was_dirty world ≡ true → takeovers before ≡ 0) → All (λ e. LacksNothing e.event) rest
      → (event : Event) → LosesNone event → IsLegalEvent world before e rest event → LacksNothing event
  event-lacks kept once synced later (Lost role cause) none legal = none
  event-lacks kept once synced later (Torn at body) none legal = by (last_of rest) (last-all (λ e. LacksNothing e.event) rest later) legal.refused
    where
      by : (last : Option Entry) → IfSome last (λ e. LacksNothing e.event) → MatchOption last ⊥ (λ e. IsTooMany e.event) → ⊥
      by None none many = many
      by (Some l) none many = none-too_many l.event none many
  event-lacks kept once synced later (Stepped done left ended) none legal = by ended legal.1
    where
      by : (ended : Option Refusal) → IfSome ended (IsRefusedRight world before) → IfSome ended IsForNoLack
      by None right = tt
      by (Some refusal) right = refused-right kept once synced refusal right
  event-lacks kept once synced later (Refused refusal) none legal = refused-right kept once synced refusal legal
  event-lacks kept once synced later event none legal = tt

-- ---- one after another

count-both : (xs ys : List Entry) → takeovers (xs ++ ys) ≡ takeovers xs + takeovers ys
count-both xs ys = sum_by-append (λ e. cond (is_takeover e.event) 1 0) xs ys

module _ (world : World) (opened : OpensWhole world) where
  lack-nothing : (before entries : List Entry) → AreLegal world before entries → world.first ≤ last_end_from world.first before → All (λ e. LosesNone e.event) before
      → All (λ e. IsNoFail e.event) entries → All (λ e. TellsNoFailure e.event) entries → takeovers (before ++ entries) ≤ 1 → (was_dirty world ≡ true → takeovers (before ++ entries) ≡ 0)
      → All (λ e. LacksNothing e.event) entries
  lack-nothing before [] legal begun kept unfailed faultless once synced = All-nil (λ e. LacksNothing e.event)
  lack-nothing before (e ∷ entries) legal begun kept unfailed faultless once synced =
      let mark = call_end e (rest_of_call e entries) in
      let rises : last_end_from world.first before ≤ e.end = legal.0.timed.rises in
      let ends : e.end ≤ length (take mark world.tape) = legal.0.timed.within in
      let taken : length (take mark world.tape) ≤ mark = let least : length (take mark world.tape) ≡ min mark (length world.tape) = length-take mark world.tape in omega (arith, least) in
      let late : world.first ≤ mark = omega (arith, begun, rises, ends, taken) in
      let unfailed-rest = rest-all (λ e. IsNoFail e.event) e entries (All-tail (λ e. IsNoFail e.event) e entries unfailed) in
      let keeps : LosesNone e.event = event-keeps (until mark world) before e (rest_of_call e entries) (whole-until world mark late opened) unfailed-rest e.event legal.0.event
      (All-head (λ e. TellsNoFailure e.event) e entries faultless) in
      let at : last_end_from world.first (before ++ e ∷ []) ≡ e.end = end-snoc world.first before e in
      let same : before ++ e ∷ entries ≡ (before ++ e ∷ []) ++ entries = sym (append_assoc before (e ∷ []) entries) in
      let later : All (λ e. LacksNothing e.event) entries = lack-nothing (before ++ e ∷ []) entries legal.1 (omega (arith, begun, rises, at))
      (All-push (λ e. LosesNone e.event) before e kept keeps) (All-tail (λ e. IsNoFail e.event) e entries unfailed) (All-tail (λ e. TellsNoFailure e.event) e entries faultless)
      (subst (λ (l : List Entry). takeovers l ≤ 1) same once) (λ dirty. subst (λ (l : List Entry). takeovers l ≡ 0) same (synced dirty)) in
      let sum : takeovers (before ++ e ∷ entries) ≡ takeovers before + takeovers (e ∷ entries) = count-both before (e ∷ entries) in
      All-cons (λ e. LacksNothing e.event) e entries
      (event-lacks (until mark world) before e (rest_of_call e entries) kept (omega (arith, once, sum))
      (λ dirty. let none : takeovers (before ++ e ∷ entries) ≡ 0 = synced (sym (dirty-until world mark late) ∙ dirty) in omega (arith, none, sum))
      (rest-all (λ e. LacksNothing e.event) e entries later) e.event keeps legal.0.event)
      later

pub whole-lack-nothing : WholeArraysLackNothing
whole-lack-nothing world entries legal whole faultless =
    lack-nothing world whole.opened [] entries legal (omega arith) (All-nil (λ e. LosesNone e.event)) whole.unfailed faultless whole.once whole.synced

pub none-gone : NoRoleIsGone
none-gone world entries role kept none = gone-none world role entries kept none
