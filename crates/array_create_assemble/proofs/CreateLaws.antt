-- What an array may be made as, where nothing refuses it.
use Rattle.std.proofs.Common.{◌≡◌, ◌≢◌, ℕ, zero, suc, ◌^◌, ◌<◌, ◌≤◌, ◌==◌, ◌⊎◌, inl, inr, Bool, true, false, not, ◌&&◌, cond, nat_le, nat_lt, Option, Some, None, refl, sym, ◌∙◌, ap, ap₂, arith, eq-or-lt_of_le, le_of_suc-le-suc}
use Rattle.std.proofs.lemmas.Bool.Decides.{nat_tests}
use Rattle.std.specs.Option.{option_or}
use Rattle.array_found_laws.specs.raid_types_Search.{least_below}
use Rattle.array_found_laws.specs.raid_types_Shapes.{is_valid_shape, is_level, is_layout, is_chunk, is_disk_count, is_multiple}
use Rattle.array_found_laws.specs.raid_types_the_ShapeField_TheVariants.{Level, Layout, Chunk, Disks, Size, Offset}
use Rattle.bank.proofs.raid_types_Least.{least_below-none}
use Rattle.bank.specs.Given.{Given}
use Rattle.sb_add_spare.proofs.sb_safe_updates_RefusingLaws.{least-none}
use Rattle.array_create_assemble.specs.declared.spec.CreateSpec.{CreateSpec}
use Rattle.array_create_assemble.specs.Creating.{member_slots, is_row_count, is_offset, bad_field, rows_end, short_member, HasRoom, IsLastSlot}
use Rattle.array_found_laws.specs.sb_specs_Reading.{is_backup}

-- ---- the least number that passes

-- the first that passes, once it is reached
pub least_below-reached : (n : ℕ) (test : ℕ → Bool) (k : ℕ) → k < n → ((j : ℕ) → j < k → test j ≡ false) → test k ≡ true → least_below n test ≡ Some k
unfolding least_below
least_below-reached zero test k within before passes = absurd (omega (arith, within))
least_below-reached (suc n) test k within before passes =
    at_place (eq-or-lt_of_le (le_of_suc-le-suc within)) (λ lt. least_below-reached n test k lt before passes)
  where
    at_place : (k ≡ n) ⊎ (k < n) → (k < n → least_below n test ≡ Some k) → option_or (least_below n test) (cond (test n) (Some n) None) ≡ Some k
    at_place (inr lt) found = ap (λ o. option_or o (cond (test n) (Some n) None)) (found lt)
    at_place (inl same) found =
        ap₂ (λ o b. option_or o (cond b (Some n) None)) (ap (λ m. least_below m test) (sym same) ∙ least_below-none k test before) (ap test (sym same) ∙ passes)
        ∙ ap (λ m. Some m) (sym same)

-- ---- values within their limits

pub record IsWithin (spec : CreateSpec) : Type 0 where
  pub valid : is_valid_shape spec.shape ≡ true
  pub chunk : 0 < spec.shape.chunk
  pub two : 2 ≤ spec.shape.disks
  pub disks : spec.shape.disks ≤ 16
  pub some : 1 ≤ spec.size
  pub size : spec.size ≤ 2 ^ 48
  pub behind : 16 ≤ spec.offset
  pub offset : spec.offset ≤ 1048576

six : (a b c d e f : Bool) → cond (not a) (Some Level) (cond (not b) (Some Layout) (cond (not c) (Some Chunk) (cond (not d) (Some Disks) (cond (not e) (Some Size) (cond (not f) (Some Offset) None))))) ≡ None
    → (a ≡ true) × (b ≡ true) × (c ≡ true) × (d ≡ true) × (e ≡ true) × (f ≡ true)
six true true true true true true none = (refl, refl, refl, refl, refl, refl)
six true true true true true false none = absurd cc
six true true true true false f none = absurd cc
six true true true false e f none = absurd cc
six true true false d e f none = absurd cc
six true false c d e f none = absurd cc
six false b c d e f none = absurd cc

pub within_limits : (spec : CreateSpec) → bad_field spec ≡ None → IsWithin spec
within_limits spec none =
    let all : (is_level spec.shape.level ≡ true) × (is_layout spec.shape.level spec.shape.layout ≡ true) × (is_chunk spec.shape.chunk ≡ true)
    × (is_disk_count spec.shape.level spec.shape.disks ≡ true) × (is_row_count spec.size ≡ true) × (is_offset spec.offset ≡ true) = six _ _ _ _ _ _ none in
    record {
      valid = four _ _ _ _ all.0 all.1 all.2 all.3;
      chunk = above spec.shape.chunk _ all.2;
      two = two (spec.shape.level == 6) spec.shape.disks all.3;
      disks = fewest spec.shape.level spec.shape.disks all.3;
      some = least 1 (2 ^ 48) spec.size all.4;
      size = most 1 (2 ^ 48) spec.size all.4;
      behind = least 16 1048576 spec.offset all.5;
      offset = most 16 1048576 spec.offset all.5;
    }
  where
    four : (a b c d : Bool) → a ≡ true → b ≡ true → c ≡ true → d ≡ true → (a && b && c && d) ≡ true
    four a b c d p q r s = grind (arith, p, q, r, s)

    above : (chunk : ℕ) (rest : Bool) → (nat_le 8 chunk && nat_le chunk 1024 && rest) ≡ true → 0 < chunk
    above chunk rest e = grind (arith, nat_tests, e)

    two : (b : Bool) (disks : ℕ) → (nat_le (cond b 4 2) disks && nat_le disks 16) ≡ true → 2 ≤ disks
    two true disks e = grind (arith, nat_tests, e)
    two false disks e = grind (arith, nat_tests, e)

    fewest : (level disks : ℕ) → is_disk_count level disks ≡ true → disks ≤ 16
    fewest level disks e = grind (arith, nat_tests, e)

    most : (low high n : ℕ) → (nat_le low n && nat_le n high) ≡ true → n ≤ high
    most low high n e = grind (arith, nat_tests, e)

    least : (low high n : ℕ) → (nat_le low n && nat_le n high) ≡ true → low ≤ n
    least low high n e = grind (arith, nat_tests, e)

-- ---- an array has its place

pub has-room : (given : Given) (backup : Option ℕ) (spec : CreateSpec) → bad_field spec ≡ None → is_multiple spec.size spec.shape.chunk ≡ true
    → spec.shape.disks ≤ member_slots given.slots backup → short_member given spec ≡ None → HasRoom given backup spec
has-room given backup spec good multiple few long =
    let within = within_limits spec good in
    record {
      valid = within.valid;
      multiple = multiple;
      two = within.two;
      disks = within.disks;
      some = within.some;
      short = within.size;
      behind = within.behind;
      near = within.offset;
      known = few;
      within = λ slot lt. not_short (given.sectors slot) (rows_end spec) (least-none spec.shape.disks (λ s. nat_lt (given.sectors s) (rows_end spec)) long slot lt);
    }
  where
    not_short : (have want : ℕ) → nat_lt have want ≡ false → want ≤ have
    not_short have want e = grind (arith, nat_tests, e)

-- the members are slots of the bank, and the backup is none of them
pub fewer : (slots disks : ℕ) (backup : Option ℕ) → disks ≤ member_slots slots backup → disks ≤ slots
fewer slots disks None le = le
fewer slots disks (Some backup) le = omega (arith, le)

pub not-backup : (slots disks slot : ℕ) (backup : Option ℕ) → IsLastSlot slots backup → 2 ≤ disks → disks ≤ member_slots slots backup → slot < disks → is_backup backup slot ≡ false
not-backup slots disks slot None last two le lt = refl
not-backup slots disks slot (Some backup) last two le lt = apart backup slot (λ e. absurd (omega (arith, e, last, le, lt)))
  where
    apart : (a b : ℕ) → a ≢ b → (a == b) ≡ false
    apart a b h = grind (arith, nat_tests)
