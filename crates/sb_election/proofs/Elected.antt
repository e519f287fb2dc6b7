-- From the superblocks that were read to the array's, and to what is answered.
use Rattle.std.proofs.Common.{◌≡◌, ◌≤◌, inl, inr, ℕ, zero, suc, false, cond, nat_lt, refl, sym, ap, ◌∙◌, subst, arith, List, [], ◌∷◌, ◌++◌, length, take, drop, map, replicate, slice_index, Option, Some, None, Result, unwrap_or, option_map}
use Rattle.std.specs.Option.{option_or, option_map_or}
use Rattle.std.proofs.lemmas.List.{get_or-take, get_or_past, length-take-le, map-append, take-map, drop-map}
use Rattle.std.proofs.lemmas.Bool.{cases_lt}
use Rattle.std.proofs.lemmas.Bool.Decides.{nat_tests}
use Rattle.sb_specs.specs.raid_types_the_Fault.{Fault}
use Rattle.sb_specs.specs.raid_types_the_Refusal_TheVariants.{NoSuperblock}
use Rattle.sb_specs.specs.raid_types_Search.{tabulate}
use Rattle.sb_specs.specs.sb_codec_the_Sb.{Sb}
use Rattle.sb_specs.specs.bank_Given.{Given, sizes}
use Rattle.sb_specs.specs.bank_Tape.{Contents}
use Rattle.sb_specs.specs.declared.members.Members.{Members}
use Rattle.sb_specs.specs.Reading.{of_array, uuid_of_first, newest_of, reading_by, seen_superblock, superblocks}
use Rattle.sb_specs.specs.Verdict.{members_refusal, members_verdict}
use Rattle.sb_specs.specs.Election.{members_scope, seen_superblocks, AreLost, uuid_for, IsAnswer, HasElected}
use Rattle.sb_election.proofs.Looked.{none_lost}

-- ---- the array's superblocks among those that were read

pub map-tabulate : {X Y : Type 0} (n : ℕ) (f : X → Y) (g : ℕ → X) → map f (tabulate n g) ≡ tabulate n (λ k. f (g k))
unfolding tabulate
map-tabulate zero f g = refl
map-tabulate (suc n) f g = map-append f (tabulate n g) (g n ∷ []) ∙ ap (λ l. l ++ f (g n) ∷ []) (map-tabulate n f g)

none_of : (uuid : List ℕ) (n : ℕ) → map (of_array uuid) (replicate n None) ≡ replicate n None
none_of uuid zero = refl
none_of uuid (suc n) = ap (λ l. None ∷ l) (none_of uuid n)

-- the slots past the last one still have none
pub others-none : (uuid : List ℕ) (n k : ℕ) (seen own : List (Option Sb)) → own ≡ map (of_array uuid) seen → drop n seen ≡ replicate k None
    → drop n own ≡ replicate k None
others-none uuid n k seen own e rest =
    ap (drop n) e ∙ drop-map (of_array uuid) n seen ∙ ap (map (of_array uuid)) rest ∙ none_of uuid k

-- ---- no superblock

neither : {X : Type 0} (a b : Option X) → option_or a b ≡ None → b ≡ None
neither None b e = e
neither (Some x) b e = absurd (cc)

none_newest : (uuid : List ℕ) (seen : List (Option Sb)) → uuid_of_first seen ≡ None → newest_of (map (of_array uuid) seen) ≡ None
none_newest uuid [] e = refl
none_newest uuid (None ∷ seen) e = none_newest uuid seen e
none_newest uuid (Some sb ∷ seen) e = absurd (cc)

pub verdict-none : (sectors : ℕ → ℕ) (uuid : List ℕ) (given : Option (List ℕ)) (seen : List (Option Sb)) → option_or given (uuid_of_first seen) ≡ None
    → members_verdict sectors (map (of_array uuid) seen) ≡ Some NoSuperblock
verdict-none sectors uuid given seen e =
    let own : List (Option Sb) = map (of_array uuid) seen in
    ap (λ newest. option_map_or (members_refusal sectors) (option_map (reading_by sectors own) newest) (Some NoSuperblock))
    (none_newest uuid seen (neither given (uuid_of_first seen) e))

-- ---- under the names of the contract

chosen : (found : Option (List ℕ)) (uuid : List ℕ) → Some uuid ≡ found → unwrap_or found [] ≡ uuid
chosen None uuid e = absurd (cc)
chosen (Some x) uuid e = cc

pub answer-seen : (sectors : ℕ → ℕ) (n lost : ℕ) (given : Option (List ℕ)) (uuid : List ℕ) (seen own : List (Option Sb)) (result : Result Members Fault)
    → Some uuid ≡ option_or given (uuid_of_first (take n seen)) → own ≡ map (of_array uuid) seen → IsAnswer sectors (take n own) lost result
    → IsAnswer sectors (map (of_array (uuid_for given (take n seen))) (take n seen)) lost result
answer-seen sectors n lost given uuid seen own result e kept answer =
    subst (λ o. IsAnswer sectors o lost result)
    (ap (take n) kept ∙ take-map (of_array uuid) n seen
    ∙ ap (λ u. map (of_array u) (take n seen)) (sym (chosen (option_or given (uuid_of_first (take n seen))) uuid e))) answer

is_past : (s n : ℕ) → n ≤ s → nat_lt s n ≡ false
is_past s n h = grind (arith, nat_tests)

-- the lengths of the bank's slots
taken : (given : Given) (lengths : List ℕ) → given.slots ≤ length lengths → ((s : ℕ) → slice_index lengths s ≡ (sizes given).sectors s)
    → (s : ℕ) → slice_index (take given.slots lengths) s ≡ (sizes given).sectors s
taken given lengths enough are s = elim (cases_lt s given.slots) [
  | inl below ↦ get_or-take given.slots lengths s 0 below ∙ are s
  | inr past ↦ get_or_past (take given.slots lengths) s 0 (omega (arith, length-take-le given.slots lengths enough))
      ∙ ap (λ b. cond b (given.sectors s) 0) (sym (is_past s given.slots past))
]

pub lengths-taken : (given given' : Given) (n : ℕ) (lengths : List ℕ) → given' ≡ given → n ≡ given'.slots → given.slots ≤ length lengths
    → ((s : ℕ) → slice_index lengths s ≡ (sizes given').sectors s) → (s : ℕ) → slice_index (take n lengths) s ≡ (sizes given).sectors s
lengths-taken given given' n lengths e f enough are s =
    subst (λ k. slice_index (take k lengths) s ≡ (sizes given).sectors s) (sym (f ∙ ap (λ (g : Given). g.slots) e))
    (taken given lengths enough (λ t. are t ∙ ap (λ (g : Given). (sizes g).sectors t) e) s)

pub elected : (tells : Type 0) (given : Given) (c : Contents) (backup : Option ℕ) (uuid : Option (List ℕ)) (before after : ℕ → ℕ)
    (result : Result Members Fault) (seen : List (Option Sb)) (lost : ℕ) (lengths : List ℕ)
    → length lengths ≡ given.slots → ((s : ℕ) → slice_index lengths s ≡ (sizes given).sectors s)
    → (tells → take given.slots seen ≡ seen_superblocks (members_scope given backup lost []) c)
    → AreLost given backup lost before after
    → IsAnswer (slice_index lengths) (map (of_array (uuid_for uuid (take (length lengths) seen))) (take (length lengths) seen)) lost result
    → HasElected tells given c backup uuid before after result
elected tells given c backup uuid before after result seen lost lengths long are read failed answer =
    let found : List (Option Sb) = take given.slots seen in
    record {
      lost = lost;
      failed = failed;
      array = uuid_for uuid found;
      named = λ told. ap (uuid_for uuid) (read told);
      own = map (of_array (uuid_for uuid found)) found;
      read = λ told. ap (map (of_array (uuid_for uuid found))) (read told)
          ∙ map-tabulate given.slots (of_array (uuid_for uuid found)) (seen_superblock (members_scope given backup lost []) c);
      answer = subst (λ (sectors : ℕ → ℕ). IsAnswer sectors (map (of_array (uuid_for uuid found)) found) lost result) (λ i s. are s i)
          (subst (λ n. IsAnswer (slice_index lengths) (map (of_array (uuid_for uuid (take n seen))) (take n seen)) lost result) long answer);
    }

-- for want of memory, before anything was read
pub none-elected : (tells : Type 0) (given : Given) (c : Contents) (backup : Option ℕ) (uuid : Option (List ℕ)) (before after : ℕ → ℕ)
    (result : Result Members Fault)
    → ((own : List (Option Sb)) → IsAnswer (sizes given).sectors own 0 result)
    → HasElected tells given c backup uuid before after result
none-elected tells given c backup uuid before after result anyway = record {
  lost = 0;
  failed = record { members = λ s h. absurd (cc (none_lost s)); failed = λ s h. absurd (cc (none_lost s)) };
  array = uuid_for uuid (seen_superblocks (members_scope given backup 0 []) c);
  named = λ told. refl;
  own = superblocks (members_scope given backup 0 (uuid_for uuid (seen_superblocks (members_scope given backup 0 []) c))) c;
  read = λ told. refl;
  answer = anyway (superblocks (members_scope given backup 0 (uuid_for uuid (seen_superblocks (members_scope given backup 0 []) c))) c);
}
