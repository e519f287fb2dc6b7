-- From what is judged of the superblocks that were found to what is answered of the contents.
use Rattle.std.proofs.Common.{◌≡◌, ◌⊎◌, inl, inr, ℕ, Bool, true, false, cond, nat_lt, refl, sym, ap, ◌∙◌, subst, List, [], ◌∷◌, length, take, map, slice_index, Option, Some, None, Result, Ok, Err, IfOk, IfErr, IfSome, IsTrue, arith, ◌<◌, ◌≤◌, zero, suc, ◌+◌, ◌-◌, ◌^◌, get_or, replicate, drop}
use Rattle.std.specs.Prelude.{not, ◌&&◌, ◌||◌, bytes_eq}
use Rattle.std.specs.Option.{option_or, option_map_or}
use Rattle.std.proofs.lemmas.List.{length-map, length-take-le, get_or-take, get_or-drop, get_or-replicate, get_or_past, length-replicate}
use Rattle.std.proofs.lemmas.Bool.{cases_lt}
use Rattle.std.proofs.lemmas.Bool.Decides.{nat_tests}
use Rattle.std.proofs.lemmas.Slice.Eq.{bytes_eq-Decides}
use Rattle.bank.specs.raid_types_the_Fault.{Fault}
use Rattle.bank.specs.raid_types_the_Fault_TheVariants.{Refused, NoMemory}
use Rattle.array_found_laws.specs.raid_types_the_Refusal.{Refusal}
use Rattle.array_found_laws.specs.raid_types_the_Refusal_TheVariants.{NoSuperblock, BackupAbsent}
use Rattle.array_found_laws.specs.raid_types_Shapes.{has_slot}
use Rattle.array_found_laws.specs.sb_codec_the_Sb.{Sb}
use Rattle.bank.specs.Given.{Given, sizes}
use Rattle.bank.specs.Tape.{Contents}
use Rattle.array_found_laws.specs.sb_specs_the_Members.{Members}
use Rattle.array_found_laws.specs.sb_specs_Reading.{Scope, Reading, reading, reading_of, newest_of, newer, of_array, superblocks, seen_superblock, is_backup, is_reshaping}
use Rattle.array_found_laws.specs.sb_specs_Verdict.{members_refusal, members_verdict}
use Rattle.array_found_laws.specs.sb_specs_Election.{seen_superblocks, uuid_for, reading_in, IsElected}
use Rattle.array_found_laws.specs.sb_specs_Writing.{AreWritable}
use Rattle.array_found_laws.specs.sb_specs_Found.{AreInSectors}
use Rattle.array_found_laws.proofs.Elected.{reading-made}
use Rattle.sb_election.proofs.Elected.{map-tabulate}
use Rattle.sb_add_spare.specs.history_Stands.{verdict, refusal_of, backup_absent, has_room, reach_of}
use Rattle.array_create_assemble.specs.declared.opening.Opened.{Opened}
use Rattle.array_create_assemble.specs.Opening.{scope_of, array_of, AreGiven, AreOfGiven, AreCounted, IsFound, IsAside, IsUnfound, HasFoundNone}
use Rattle.array_create_assemble.specs.Looking.{lengths_scope, IsMade, IsLacking, IsJudged}

-- ---- a reshape

module _ (scope : Scope) (sb : Sb) where
  pub still_none : is_reshaping sb ≡ false → backup_absent scope sb ≡ None
  still_none is = ap (λ b. cond (not b || has_room scope (reach_of sb)) None (Some BackupAbsent)) is

pub backup-refused : (scope : Scope) (own : List (Option Sb)) (lost : ℕ) (members : Members) (refusal : Refusal)
    → IsElected scope.sizes.sectors own lost members → backup_absent scope members.newest ≡ Some refusal → IsLacking scope own refusal
backup-refused scope own lost members refusal elected e = record {
  accepted = elected.accepted;
  found = reading_in (length own) members;
  says = elected.says;
  lacking = e;
}

-- ---- the uuid

from_array : (uuid : List ℕ) (found : Option Sb) (sb : Sb) → of_array uuid found ≡ Some sb → sb.set_uuid ≡ uuid
from_array uuid None sb e = absurd (cc)
from_array uuid (Some other) sb e = by_test (bytes_eq other.set_uuid uuid) refl e
  where
    by_test : (b : Bool) → bytes_eq other.set_uuid uuid ≡ b → cond b (Some other) None ≡ Some sb → sb.set_uuid ≡ uuid
    by_test true is e =
        let same : other ≡ sb = cc in
        ap (λ (s : Sb). s.set_uuid) (sym same) ∙ (bytes_eq-Decides other.set_uuid uuid).0 is
    by_test false is e = absurd (cc)

-- the newest of an array's superblocks is one of them
newest-array : (uuid : List ℕ) (found : List (Option Sb)) (sb : Sb) → newest_of (map (of_array uuid) found) ≡ Some sb → sb.set_uuid ≡ uuid
newest-array uuid [] sb e = absurd (cc)
newest-array uuid (one ∷ found) sb e =
    by_first (λ sb e. newest-array uuid found sb e) (of_array uuid one) refl (newest_of (map (of_array uuid) found)) refl e
  where
    More : Type 0
    More = (sb : Sb) → newest_of (map (of_array uuid) found) ≡ Some sb → sb.set_uuid ≡ uuid

    with_rest : More → (own : Sb) → own.set_uuid ≡ uuid → (rest : Option Sb) → newest_of (map (of_array uuid) found) ≡ rest
        → Some (newer own rest) ≡ Some sb → sb.set_uuid ≡ uuid
    with_rest more own is None there e = let same : own ≡ sb = cc in ap (λ (s : Sb). s.set_uuid) (sym same) ∙ is
    with_rest more own is (Some other) there e = by_test (nat_lt own.events other.events) e
      where
        by_test : (b : Bool) → Some (cond b other own) ≡ Some sb → sb.set_uuid ≡ uuid
        by_test true e = more sb (there ∙ e)
        by_test false e = let same : own ≡ sb = cc in ap (λ (s : Sb). s.set_uuid) (sym same) ∙ is

    by_first : More → (first : Option Sb) → of_array uuid one ≡ first → (rest : Option Sb) → newest_of (map (of_array uuid) found) ≡ rest
        → newest_of (first ∷ map (of_array uuid) found) ≡ Some sb → sb.set_uuid ≡ uuid
    by_first more None is rest there e = more sb e
    by_first more (Some own) is rest there e =
        with_rest more own (from_array uuid one own is) rest there (sym (ap (λ o. Some (newer own o)) there) ∙ e)

-- ---- each slot's own superblock is one that was found in it

of-some : (uuid : List ℕ) (found : Option Sb) (sb : Sb) → of_array uuid found ≡ Some sb → found ≡ Some sb
of-some uuid None sb e = absurd (cc)
of-some uuid (Some other) sb e = by_test (bytes_eq other.set_uuid uuid) e
  where
    by_test : (b : Bool) → cond b (Some other) None ≡ Some sb → Some other ≡ Some sb
    by_test true e = e
    by_test false e = absurd (cc)

got : (uuid : List ℕ) (found : List (Option Sb)) (s : ℕ) (sb : Sb) → get_or (map (of_array uuid) found) s None ≡ Some sb → get_or found s None ≡ Some sb
got uuid [] s sb e = e
got uuid (one ∷ found) zero sb e = of-some uuid one sb e
got uuid (one ∷ found) (suc s) sb e = got uuid found s sb e

none-there : (k i : ℕ) → ◌≡◌ {A = Option Sb} (get_or (replicate k None) i None) None
none-there k i = elim (cases_lt i k) [
  | inl below ↦ get_or-replicate k i None None below
  | inr past ↦ get_or_past (replicate k None) i None (omega (arith, past, length-replicate {A = Option Sb} k None))
]

none-some : {sb : Sb} → ◌≡◌ {A = Option Sb} None (Some sb) → ⊥
none-some e = absurd (cc)

module _ (bank : Given) (sectors : ℕ → ℕ) (n lost : ℕ) (uuid : List ℕ) (seen : List (Option Sb)) (few : n ≤ 32) (count : length seen ≡ 32)
    (members : Members) (elected : IsElected sectors (map (of_array uuid) (take n seen)) lost members) where
  abbrev kept : List (Option Sb)
  kept = map (of_array uuid) (take n seen)

  kept-count : length kept ≡ n
  kept-count = length-map (take n seen) (of_array uuid) ∙ length-take-le n seen (omega (arith, count, few))

  pub own-found : (s : ℕ) (sb : Sb) → get_or members.own s None ≡ Some sb → get_or seen s None ≡ Some sb
  own-found s sb e = elim (cases_lt s n) [
    | inl within ↦
        let whole : kept ≡ take n members.own =
        (reading-made sectors kept (reading_in (length kept) members) elected.says).1 ∙ ap (λ k. take k members.own) kept-count in
        sym (get_or-take n seen s None within)
        ∙ got uuid (take n seen) s sb (ap (λ l. get_or l s None) whole ∙ get_or-take n members.own s None within ∙ e)
    | inr past ↦
        let rest : drop n members.own ≡ replicate (32 - n) None =
        subst (λ k. drop k members.own ≡ replicate (32 - k) None) kept-count elected.others in
        let at : n + (s - n) ≡ s = omega (arith, past) in
        absurd (contrary (ap (λ k. get_or members.own k None) at ∙ e) (sym (get_or-drop n members.own (s - n) None) ∙ ap (λ l. get_or l (s - n) None) rest))
  ]
    where
      contrary : get_or members.own (n + (s - n)) None ≡ Some sb → get_or members.own (n + (s - n)) None ≡ get_or (replicate (32 - n) None) (s - n) None → ⊥
      contrary is there = none-some (sym (there ∙ none-there (32 - n) (s - n)) ∙ is)

  pub own-below : (s : ℕ) (sb : Sb) → get_or members.own s None ≡ Some sb → s < n
  own-below s sb e = elim (cases_lt s n) [
    | inl within ↦ within
    | inr past ↦
        let rest : drop n members.own ≡ replicate (32 - n) None =
        subst (λ k. drop k members.own ≡ replicate (32 - k) None) kept-count elected.others in
        let at : n + (s - n) ≡ s = omega (arith, past) in
        let there : get_or members.own (n + (s - n)) None ≡ get_or (replicate (32 - n) None) (s - n) None =
        sym (get_or-drop n members.own (s - n) None) ∙ ap (λ l. get_or l (s - n) None) rest in
        absurd (none-some (sym (there ∙ none-there (32 - n) (s - n)) ∙ ap (λ k. get_or members.own k None) at ∙ e))
  ]

-- ---- the answer

-- the members' refusals, and then the backup's
module _ (scope : Scope) (c : Contents) where
  abbrev sectors : ℕ → ℕ
  sectors = scope.sizes.sectors

  refused-first : (found : Option Reading) (refusal : Refusal) → option_map_or (members_refusal sectors) found (Some NoSuperblock) ≡ Some refusal
      → option_map_or (refusal_of scope) found (Some NoSuperblock) ≡ Some refusal
  refused-first None refusal e = e
  refused-first (Some r) refusal e = ap (λ o. option_or o (backup_absent scope r.newest)) e

  refused-for : (found : Option Reading) (r : Reading) → found ≡ Some r → option_map_or (members_refusal sectors) found (Some NoSuperblock) ≡ None
      → option_map_or (refusal_of scope) found (Some NoSuperblock) ≡ backup_absent scope r.newest
  refused-for found r is none =
      ap (λ found. option_map_or (refusal_of scope) found (Some NoSuperblock)) is
      ∙ ap (λ o. option_or o (backup_absent scope r.newest))
      (sym (ap (λ found. option_map_or (members_refusal sectors) found (Some NoSuperblock)) is) ∙ none)

  verdict-refused : (refusal : Refusal) → members_verdict sectors (superblocks scope c) ≡ Some refusal → verdict scope c ≡ Some refusal
  unfolding verdict reading
  verdict-refused refusal e = refused-first (reading scope c) refusal e

  pub verdict-for : (r : Reading) → reading scope c ≡ Some r → members_verdict sectors (superblocks scope c) ≡ None
      → verdict scope c ≡ backup_absent scope r.newest
  unfolding verdict reading
  verdict-for r is none = refused-for (reading scope c) r is none

module _ (tells : Type 0) (bank : Given) (c : Contents) (backup : Option ℕ) (asked : Option (List ℕ)) (before after : ℕ → ℕ)
    (lengths : List ℕ) (seen : List (Option Sb)) (lost given : ℕ) (result : Result Opened Fault)
    (few : bank.slots ≤ 32) (count : length seen ≡ 32)
    (long : length lengths ≡ bank.slots) (are : (s : ℕ) → slice_index lengths s ≡ (sizes bank).sectors s)
    (read : tells → take bank.slots seen ≡ seen_superblocks (scope_of bank backup given []) c)
    (bits : (s : ℕ) → has_slot lost s ≡ (nat_lt s bank.slots && not (has_slot given s)))
    (slots : AreGiven bank given before after) where
  abbrev found : List (Option Sb)
  found = take bank.slots seen

  abbrev uuid : List ℕ
  uuid = uuid_for asked (take bank.slots seen)

  abbrev own : List (Option Sb)
  own = map (of_array (uuid_for asked (take bank.slots seen))) (take bank.slots seen)

  -- the given slots, looked at for an array
  abbrev scope : List ℕ → Scope
  scope array = scope_of bank backup given array

  same_scope : lengths_scope backup given lengths ≡ scope_of bank backup given []
  same_scope = λ i. record { uuid = []; given = given; backup = backup; sizes = record { slots = long i; sectors = λ s. are s i } }

  as-judged : IsJudged (lengths_scope backup given lengths) (map (of_array (uuid_for asked (take (length lengths) seen))) (take (length lengths) seen)) lost result
      → IsJudged (scope []) own lost result
  as-judged judged =
      subst (λ s. IsJudged s own lost result) same_scope
      (subst (λ n. IsJudged (lengths_scope backup given lengths) (map (of_array (uuid_for asked (take n seen))) (take n seen)) lost result) long judged)

  own-count : length own ≡ bank.slots
  own-count = length-map (take bank.slots seen) (of_array uuid) ∙ length-take-le bank.slots seen (omega (arith, count, few))

  own-stored : tells → own ≡ superblocks (scope uuid) c
  own-stored told = ap (map (of_array uuid)) (read told) ∙ map-tabulate bank.slots (of_array uuid) (seen_superblock (scope []) c)

  reads : tells → reading (scope uuid) c ≡ reading_of (sizes bank).sectors own
  unfolding reading
  reads told = ap (reading_of (sizes bank).sectors) (sym (own-stored told))

  named : tells → uuid ≡ array_of bank backup given asked c
  named told = ap (uuid_for asked) (read told)

  is-found : (opened : Opened) → IsMade (scope []) own lost opened → IsFound tells bank c backup asked opened
  is-found opened made =
      let members : Members = opened.members in
      let elected = made.elected in
      let parts = reading-made (sizes bank).sectors own (reading_in (length own) members) elected.says in
      let whole : own ≡ take bank.slots members.own = parts.1 ∙ ap (λ n. take n members.own) own-count in
      let of_it : members.newest.set_uuid ≡ uuid = newest-array uuid found members.newest parts.0 in
      let says : tells → reading (scope uuid) c ≡ Some (reading_in bank.slots members) =
      λ told. reads told ∙ elected.says ∙ ap (λ n. Some (reading_in n members)) own-count in
      record {
        elected = subst (λ n. IsElected (sizes bank).sectors (take bank.slots members.own) n members) (sym elected.named)
            (subst (λ o. IsElected (sizes bank).sectors o lost members) whole elected);
        lost = λ s. ap (λ n. has_slot n s) elected.named ∙ bits s ∙ ap (λ n. nat_lt s bank.slots && not (has_slot n s)) (sym made.given);
        backed = subst (λ n. backup_absent (scope_of bank backup n members.newest.set_uuid) members.newest ≡ None) (sym made.given) made.backed;
        array = λ told. of_it ∙ named told ∙ ap (λ n. array_of bank backup n asked c) (sym made.given);
        says = λ told. subst (λ n. reading (scope_of bank backup n members.newest.set_uuid) c ≡ Some (reading_in bank.slots members)) (sym made.given)
            (subst (λ u. reading (scope u) c ≡ Some (reading_in bank.slots members)) (sym of_it) (says told));
        accepted = λ told. subst (λ n. verdict (scope_of bank backup n members.newest.set_uuid) c ≡ None) (sym made.given)
            (subst (λ u. verdict (scope u) c ≡ None) (sym of_it)
            (verdict-for (scope uuid) c (reading_in bank.slots members) (says told)
            (ap (members_verdict (sizes bank).sectors) (sym (own-stored told)) ∙ elected.accepted)
            ∙ made.backed));
      }

  is-refused : (refusal : Refusal) → (members_verdict (sizes bank).sectors own ≡ Some refusal) ⊎ IsLacking (scope []) own refusal
      → IsUnfound tells bank c backup asked before after refusal
  is-refused refusal judged = record {
    given = given;
    slots = slots;
    why = λ told. subst (λ u. verdict (scope u) c ≡ Some refusal) (named told) (elim judged [
      | inl first ↦ verdict-refused (scope uuid) c refusal (ap (members_verdict (sizes bank).sectors) (sym (own-stored told)) ∙ first)
      | inr none ↦ verdict-for (scope uuid) c none.found (reads told ∙ none.says) (ap (members_verdict (sizes bank).sectors) (sym (own-stored told)) ∙ none.accepted) ∙ none.lacking
    ]);
  }

  module _ (judged : IsJudged (lengths_scope backup given lengths) (map (of_array (uuid_for asked (take (length lengths) seen))) (take (length lengths) seen)) lost result) where
    by_ok : (r : Result Opened Fault) → IsJudged (scope []) own lost r → IfOk r (IsFound tells bank c backup asked)
    by_ok (Ok opened) made = is-found opened made
    by_ok (Err fault) why = tt

    by_found : (r : Result Opened Fault) → IsJudged (scope []) own lost r → AreWritable bank seen
        → IfOk r (λ opened. AreWritable bank opened.members.own)
    by_found (Ok opened) made writable =
        λ s sb e. writable s sb (own-found bank (sizes bank).sectors bank.slots lost uuid seen few count opened.members made.elected s sb e)
    by_found (Err fault) why writable = tt

    by_own : (r : Result Opened Fault) → IsJudged (scope []) own lost r → ((s : ℕ) → has_slot lost s ≡ true → get_or seen s None ≡ None)
        → IfOk r (λ opened. AreOfGiven opened.given opened.members.own)
    by_own (Ok opened) made none = λ s sb e.
        let found = own-found bank (sizes bank).sectors bank.slots lost uuid seen few count opened.members made.elected s sb e in
        let below = own-below bank (sizes bank).sectors bank.slots lost uuid seen few count opened.members made.elected s sb e in
        ap (λ n. has_slot n s) made.given ∙ is-given (nat_lt s bank.slots) (has_slot given s) (has_slot lost s) (lt s bank.slots below) (bits s)
        (λ gone. none-some (sym (none s gone) ∙ found))
      where
        lt : (a b : ℕ) → a < b → nat_lt a b ≡ true
        lt a b h = grind (arith, nat_tests, h)

        is-given : (a b l : Bool) → a ≡ true → l ≡ (a && not b) → (l ≡ true → ⊥) → b ≡ true
        is-given a true l known e stays = refl
        is-given a false l known e stays = absurd (stays (e ∙ ap (λ x. x && true) known))
    by_own (Err fault) why none = tt

    by_aside : (r : Result Opened Fault) → IsJudged (scope []) own lost r → ((s : ℕ) → IsTrue (is_backup backup s) → get_or seen s None ≡ None)
        → IfOk r (λ opened. IsAside backup opened.members.own)
    by_aside (Ok opened) made none = λ s is. at s (get_or opened.members.own s None) refl is
      where
        at : (s : ℕ) (found : Option Sb) → get_or opened.members.own s None ≡ found → IsTrue (is_backup backup s) → get_or opened.members.own s None ≡ None
        at s None e is = e
        at s (Some sb) e is = absurd (none-some (sym (none s is) ∙ own-found bank (sizes bank).sectors bank.slots lost uuid seen few count opened.members made.elected s sb e))
    by_aside (Err fault) why none = tt

    by_name : (r : Result Opened Fault) → IsJudged (scope []) own lost r → IfOk r (λ opened. IfSome asked (λ u. opened.members.newest.set_uuid ≡ u))
    by_name (Ok opened) made = name asked (newest-array uuid found opened.members.newest
        (reading-made (sizes bank).sectors own (reading_in (length own) opened.members) made.elected.says).0)
      where
        name : (asked : Option (List ℕ)) → opened.members.newest.set_uuid ≡ uuid_for asked found → IfSome asked (λ u. opened.members.newest.set_uuid ≡ u)
        name None is = tt
        name (Some u) is = is
    by_name (Err fault) why = tt

    by_sectors : (r : Result Opened Fault) (k : Contents) → IsJudged (scope []) own lost r → (tells → AreInSectors k seen)
        → IfOk r (λ opened. tells → AreInSectors k opened.members.own)
    by_sectors (Ok opened) k made stand =
        λ told s sb e. stand told s sb (own-found bank (sizes bank).sectors bank.slots lost uuid seen few count opened.members made.elected s sb e)
    by_sectors (Err fault) k why stand = tt

    by_err : (r : Result Opened Fault) → IsJudged (scope []) own lost r → IfErr r (HasFoundNone tells bank c backup asked before after)
    by_err (Ok opened) made = tt
    by_err (Err (Refused refusal)) why = is-refused refusal why
    by_err (Err NoMemory) why = tt

    pub ok-found : IfOk result (IsFound tells bank c backup asked)
    ok-found = by_ok result (as-judged judged)

    pub ok-writable : AreWritable bank seen → IfOk result (λ opened. AreWritable bank opened.members.own)
    ok-writable writable = by_found result (as-judged judged) writable

    pub ok-sectors : (k : Contents) → (tells → AreInSectors k seen) → IfOk result (λ opened. tells → AreInSectors k opened.members.own)
    ok-sectors k stand = by_sectors result k (as-judged judged) stand

    pub ok-own : ((s : ℕ) → has_slot lost s ≡ true → get_or seen s None ≡ None) → IfOk result (λ opened. AreOfGiven opened.given opened.members.own)
    ok-own none = by_own result (as-judged judged) none

    pub ok-aside : ((s : ℕ) → IsTrue (is_backup backup s) → get_or seen s None ≡ None) → IfOk result (λ opened. IsAside backup opened.members.own)
    ok-aside none = by_aside result (as-judged judged) none

    pub ok-named : IfOk result (λ opened. IfSome asked (λ u. opened.members.newest.set_uuid ≡ u))
    ok-named = by_name result (as-judged judged)

    pub err-caused : IfErr result (HasFoundNone tells bank c backup asked before after)
    err-caused = by_err result (as-judged judged)

-- a fact of the given slots is one of those that are answered
pub given-as : (result : Result Opened Fault) (given : ℕ) (P : ℕ → Type 0) → IfOk result (λ opened. opened.given ≡ given) → P given
    → IfOk result (λ opened. P opened.given)
given-as (Ok opened) given P is p = subst P (sym is) p
given-as (Err fault) given P is p = tt

pub on-ok : {P : Type 0} (result : Result Opened Fault) → P → IfOk result (λ opened. P)
on-ok (Ok opened) p = p
on-ok (Err fault) p = tt

pub counted-by : (bank : Given) (lengths : List ℕ) → ((s : ℕ) → slice_index lengths s ≡ (sizes bank).sectors s) → ((s : ℕ) → slice_index lengths s < 2 ^ 64) → AreCounted bank
counted-by bank lengths are small s h =
    subst (λ (n : ℕ). n < 2 ^ 64) (are s ∙ ap (λ (b : Bool). cond b (bank.sectors s) 0) (below s bank.slots h)) (small s)
  where
    below : (a b : ℕ) → a < b → nat_lt a b ≡ true
    below a b h = grind (arith, nat_tests, h)
