-- What is under way in an array that is taken over: the device numbers that slots may bear, and what was rebuilt.
use Rattle.std.proofs.Common.{◌≡◌, inl, inr, ℕ, ◌<◌, ◌≤◌, ◌*◌, ◌/◌, ◌==◌, nat_lt, ◌⊎◌, ◌&&◌, ◌||◌, Bool, true, false, Option, Some, None, List, length, refl, sym, ◌∙◌, ap, subst, arith}
use Rattle.std.specs.Prelude.{if◌then◌else◌, slice_index, nat_le}
use Rattle.std.specs.Option.{option_map_or}
use Rattle.std.proofs.Math.Nat.{div-mul-le_self}
use Rattle.std.proofs.lemmas.Bool.{cases_lt}
use Rattle.std.proofs.lemmas.Bool.Decides.{nat_tests}
use Rattle.std.proofs.lemmas.List.{get_or_past}
use Rattle.array_call_specs.specs.raid_types_Search.{tabulate}
use Rattle.array_call_specs.specs.raid_types_Shapes.{has_slot}
use Rattle.array_call_specs.proofs.raid_types_Tabulated.{get_or-tabulate}
use Rattle.array_call_specs.specs.raid_types_the_Role_TheVariants.{Recovering}
use Rattle.array_call_specs.specs.sb_codec_the_Sb.{Sb}
use Rattle.array_call_specs.specs.sb_specs_Update.{own_in}
use Rattle.array_call_specs.proofs.sb_specs_SlotSets.{in-set_of}
use Rattle.array_call_specs.specs.array_members_Numbers.{bears}
use Rattle.array_call_specs.specs.crash_safety_laws_Carried.{AreCarried}
use Rattle.array_call_specs.specs.array_members_Rebuilding.{AreRebuilt}
use Rattle.array_call_specs.specs.raid_types_Sectors.{Sector}
use Rattle.array_call_specs.specs.bank_Tape.{Contents}
use Rattle.array_call_specs.specs.sb_specs_the_Members.{Members}
use Rattle.array_call_specs.specs.sb_specs_Reading.{Scope, shape_of, role_state, rows_held}
use Rattle.array_call_specs.specs.stripe_row_Rows.{reading_of}
use Rattle.array_call_specs.specs.array_members_Status.{rebuilt_of}
use Rattle.array_call_specs.specs.Adopting.{stripes_held, found_stripes, bearers_of, found_work, AreNumbersKept}

-- ---- what it has under way

-- each slot may bear the number of its superblock
pub found-kept : (own : List (Option Sb)) (slot : ℕ) (sb : Sb) → length own ≡ 32 → own_in own slot ≡ Some sb
    → (nat_le 128 sb.dev_number || (nat_lt slot 32 && has_slot (slice_index (tabulate 128 (bearers_of own)) sb.dev_number) slot)) ≡ true
found-kept own slot sb long is = elim (cases_lt sb.dev_number 128) [
  | inl below ↦
      let few = inside (cases_lt slot 32) in
      ap (λ (b : Bool). nat_le 128 sb.dev_number || (nat_lt slot 32 && b))
      (ap (λ (set : ℕ). has_slot set slot) (get_or-tabulate 128 (bearers_of own) sb.dev_number 0 below)
      ∙ in-set_of (λ s. option_map_or (λ sb'. sb'.dev_number == sb.dev_number) (own_in own s) false) slot few
      ∙ ap (λ (o : Option Sb). option_map_or (λ sb'. sb'.dev_number == sb.dev_number) o false) is ∙ itself sb.dev_number)
      ∙ last (nat_le 128 sb.dev_number) slot few
  | inr above ↦ counts (nat_lt slot 32 && has_slot (slice_index (tabulate 128 (bearers_of own)) sb.dev_number) slot) sb.dev_number above
]
  where
    itself : (n : ℕ) → (n == n) ≡ true
    itself n = grind (arith, nat_tests)

    last : (b : Bool) (s : ℕ) → s < 32 → (b || (nat_lt s 32 && true)) ≡ true
    last true s lt = refl
    last false s lt = grind (arith, nat_tests, lt)

    counts : (b : Bool) (n : ℕ) → 128 ≤ n → (nat_le 128 n || b) ≡ true
    counts b n le = ap (λ (a : Bool). a || b) (all n le)
      where
        all : (m : ℕ) → 128 ≤ m → nat_le 128 m ≡ true
        all m le' = grind (arith, nat_tests, le')

    inside : (slot < 32) ⊎ (32 ≤ slot) → slot < 32
    inside (inl lt) = lt
    inside (inr beyond) = absurd (let nothing = sym is ∙ get_or_past own slot None (omega (arith, long, beyond)) in cc)

-- so it does of those that slots may show
pub found-carried : {scope : Scope} {d : ℕ → ℕ → List Sector} (members : Members) → length members.own ≡ 32 → AreNumbersKept scope members.own d → AreCarried scope (bears (found_work members)) members.own d
found-carried members long numbers = record {
  kept = λ slot sb is. found-kept members.own slot sb long is;
  shown = λ slot sb may. let kept = numbers slot sb may in subst (λ (n : ℕ). bears (found_work members) slot n ≡ true) kept.2 (found-kept members.own slot kept.0 long kept.1);
}

-- nothing is rebuilt beyond what a recovering slot holds
pub found-rebuilt : (members : Members) (c : Contents) (list : ℕ → Sector) → (shape_of members.newest).disks ≤ 16 → AreRebuilt (found_work members) members c list
found-rebuilt members c list few role slot row lt state beyond below = absurd (
    let r = reading_of members in
    let chunk = (shape_of members.newest).chunk in
    let disks = (shape_of members.newest).disks in
    let here : rebuilt_of (found_work members) role ≡ rows_held r (Recovering slot) / chunk =
    get_or-tabulate 16 (found_stripes r chunk disks) role 0 (omega (arith, lt, few))
    ∙ within (nat_lt role disks) (stripes_held r chunk (role_state r role)) (grind (arith, nat_tests, lt)) ∙ ap (stripes_held r chunk) state in
    let times : rebuilt_of (found_work members) role * chunk ≡ rows_held r (Recovering slot) / chunk * chunk = ap (λ (n : ℕ). n * chunk) here in
    let held = div-mul-le_self (rows_held r (Recovering slot)) chunk in
    omega (arith, beyond, below, times, held)
    )
  where
    within : (b : Bool) (n : ℕ) → b ≡ true → ◌≡◌ {A = ℕ} (if b then n else 0) n
    within true n is = refl
    within false n is = absurd (cc)
