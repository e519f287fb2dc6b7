-- What a planned superblock has of the newest one and of its own.
use Rattle.std.proofs.Common.{◌≡◌, inl, inr, ℕ, ◌+◌, ◌-◌, ◌^◌, ◌<◌, ◌≤◌, ◌==◌, true, false, cond, ◌||◌, ◌&&◌, nat_lt, max, min, List, ◌++◌, take, drop, length, get_or, Some, None, bit_and, bit_or, w32, refl, sym, ◌∙◌, ap, ap₂, arith}
use Rattle.std.specs.Int.{bit_at}
use Rattle.std.proofs.lemmas.Bool.{cases_lt}
use Rattle.std.proofs.lemmas.Bool.Decides.{nat_tests}
use Rattle.std.proofs.lemmas.Nat.Bits.{bit_at_and, bit_at_or, bit_at_not, bit_at-lt, bit_at_above, same_from_bits}
use Rattle.std.proofs.lemmas.List.{length-take-le, get_or-take, get_or-drop, get_or_append_left, get_or-append_right}
use Rattle.std.proofs.lemmas.Slice.{drop-append-drop}
use Rattle.sb_specs.specs.Verdict.{is_role}
use Rattle.sb_codec.specs.declared.sb.Sb.{Sb}
use Rattle.sb_codec.specs.Features.{refused_bits}
use Rattle.sb_specs.specs.declared.change.Give.{Give}
use Rattle.sb_specs.specs.declared.change.Give.TheVariants.{Same, Spare}
use Rattle.sb_specs.specs.declared.change.Give.TheVariants as give
use Rattle.sb_specs.specs.Reading.{is_recovering, is_negative, is_zero}
use Rattle.sb_specs.specs.Update.{planned, with_shared}
use Rattle.sb_specs.specs.Reads.{SaysSame, IsNewestLike, HasNoLateRoles}

-- ---- bits of the feature map

-- of the newest's bits 4 and 32
pub shared_bit : (own shared i c k : ℕ) → bit_at (2 ^ 32 - 1 - (4 + 32)) i ≡ c → bit_at (4 + 32) i ≡ k
    → bit_at (bit_or (bit_and own (2 ^ 32 - 1 - (4 + 32))) (bit_and shared (4 + 32))) i ≡ max (min (bit_at own i) c) (min (bit_at shared i) k)
shared_bit own shared i c k ec ek =
    bit_at_or (bit_and own (2 ^ 32 - 1 - (4 + 32))) (bit_and shared (4 + 32)) i
    ∙ ap₂ max (bit_at_and own (2 ^ 32 - 1 - (4 + 32)) i ∙ ap (min (bit_at own i)) ec) (bit_at_and shared (4 + 32) i ∙ ap (min (bit_at shared i)) ek)

taken : (a b : ℕ) → a < 2 → b < 2 → max (min a 0) (min b 1) ≡ b
taken a b ha hb = omega arith

left : (a b : ℕ) → a < 2 → b < 2 → max (min a 1) (min b 0) ≡ a
left a b ha hb = omega arith

abbrev pub shared_map : ℕ → ℕ → ℕ
shared_map own shared = bit_or (bit_and own (2 ^ 32 - 1 - (4 + 32))) (bit_and shared (4 + 32))

bit-2 : (own shared : ℕ) → bit_at (shared_map own shared) 2 ≡ bit_at shared 2
bit-2 own shared = shared_bit own shared 2 0 1 refl refl ∙ taken (bit_at own 2) (bit_at shared 2) (bit_at-lt own 2) (bit_at-lt shared 2)

bit-5 : (own shared : ℕ) → bit_at (shared_map own shared) 5 ≡ bit_at shared 5
bit-5 own shared = shared_bit own shared 5 0 1 refl refl ∙ taken (bit_at own 5) (bit_at shared 5) (bit_at-lt own 5) (bit_at-lt shared 5)

bit-1 : (own shared : ℕ) → bit_at (shared_map own shared) 1 ≡ bit_at own 1
bit-1 own shared = shared_bit own shared 1 1 0 refl refl ∙ left (bit_at own 1) (bit_at shared 1) (bit_at-lt own 1) (bit_at-lt shared 1)

-- with or without bit 2
pub set_bit : (map i k : ℕ) → bit_at 2 i ≡ k → bit_at (bit_or map 2) i ≡ max (bit_at map i) k
set_bit map i k e = bit_at_or map 2 i ∙ ap (max (bit_at map i)) e

pub clear_bit : (map i c : ℕ) → bit_at (2 ^ 32 - 1 - 2) i ≡ c → bit_at (bit_and map (2 ^ 32 - 1 - 2)) i ≡ min (bit_at map i) c
clear_bit map i c e = bit_at_and map (2 ^ 32 - 1 - 2) i ∙ ap (min (bit_at map i)) e

no_more : (a : ℕ) → max a 0 ≡ a
no_more a = omega arith

no_less : (a : ℕ) → a < 2 → min a 1 ≡ a
no_less a h = omega arith

-- ---- the refused bits

refused_shared : (a b c r k t : ℕ) → a < 2 → b < 2 → k < 2 → t < 2 → c ≡ 1 - k → r ≡ 1 - max k t → min (max (min a c) (min b k)) r ≡ min a r
refused_shared a b c r k t ha hb hk ht ec er = omega (arith, ec, er)

refused_set : (a r k t : ℕ) → a < 2 → k < 2 → t < 2 → r ≡ 1 - max k t → min (max a t) r ≡ min a r
refused_set a r k t ha hk ht er = omega (arith, er)

refused_clear : (a c r k t : ℕ) → a < 2 → k < 2 → t < 2 → c ≡ 1 - t → r ≡ 1 - max k t → min (min a c) r ≡ min a r
refused_clear a c r k t ha hk ht ec er = omega (arith, ec, er)

-- the bits of the constants
module _ (i : ℕ) (h : i < 32) where
  both_bits : bit_at (2 + 4 + 32) i ≡ max (bit_at (4 + 32) i) (bit_at 2 i)
  both_bits = bit_at_or (4 + 32) 2 i

  refused_bit : bit_at (2 ^ 32 - 1 - (2 + 4 + 32)) i ≡ 1 - max (bit_at (4 + 32) i) (bit_at 2 i)
  refused_bit = bit_at_not w32 (2 + 4 + 32) i (omega arith) h ∙ ap (λ n. 1 - n) both_bits

  pub others_bit : bit_at (2 ^ 32 - 1 - (4 + 32)) i ≡ 1 - bit_at (4 + 32) i
  others_bit = bit_at_not w32 (4 + 32) i (omega arith) h

  pub but_bit : bit_at (2 ^ 32 - 1 - 2) i ≡ 1 - bit_at 2 i
  but_bit = bit_at_not w32 2 i (omega arith) h

none_past : (a b : ℕ) → min a 0 ≡ min b 0
none_past a b = omega arith

-- bit by bit, below 32 and past it
refused_by : (x y : ℕ) → ((i : ℕ) → i < 32 → min (bit_at x i) (bit_at (2 ^ 32 - 1 - (2 + 4 + 32)) i) ≡ min (bit_at y i) (bit_at (2 ^ 32 - 1 - (2 + 4 + 32)) i)) → refused_bits x ≡ refused_bits y
refused_by x y same = same_from_bits (refused_bits x) (refused_bits y) (λ i.
    bit_at_and x (2 ^ 32 - 1 - (2 + 4 + 32)) i
    ∙ elim (cases_lt i 32) [
      | inl below ↦ same i below
      | inr past ↦ (λ j. min (bit_at x i) (bit_at_above (2 ^ 32 - 1 - (2 + 4 + 32)) 32 i (omega arith) past j)) ∙ none_past (bit_at x i) (bit_at y i)
          ∙ sym (λ j. min (bit_at y i) (bit_at_above (2 ^ 32 - 1 - (2 + 4 + 32)) 32 i (omega arith) past j))
    ]
    ∙ sym (bit_at_and y (2 ^ 32 - 1 - (2 + 4 + 32)) i))

shared-refused : (own shared : ℕ) → refused_bits (shared_map own shared) ≡ refused_bits own
shared-refused own shared = refused_by (shared_map own shared) own (λ i h.
    ap (λ n. min n (bit_at (2 ^ 32 - 1 - (2 + 4 + 32)) i)) (shared_bit own shared i (bit_at (2 ^ 32 - 1 - (4 + 32)) i) (bit_at (4 + 32) i) refl refl)
    ∙ refused_shared (bit_at own i) (bit_at shared i) (bit_at (2 ^ 32 - 1 - (4 + 32)) i) (bit_at (2 ^ 32 - 1 - (2 + 4 + 32)) i) (bit_at (4 + 32) i) (bit_at 2 i)
    (bit_at-lt own i) (bit_at-lt shared i) (bit_at-lt (4 + 32) i) (bit_at-lt 2 i) (others_bit i h) (refused_bit i h))

set-refused : (map : ℕ) → refused_bits (bit_or map 2) ≡ refused_bits map
set-refused map = refused_by (bit_or map 2) map (λ i h.
    ap (λ n. min n (bit_at (2 ^ 32 - 1 - (2 + 4 + 32)) i)) (set_bit map i (bit_at 2 i) refl)
    ∙ refused_set (bit_at map i) (bit_at (2 ^ 32 - 1 - (2 + 4 + 32)) i) (bit_at (4 + 32) i) (bit_at 2 i) (bit_at-lt map i) (bit_at-lt (4 + 32) i) (bit_at-lt 2 i) (refused_bit i h))

clear-refused : (map : ℕ) → refused_bits (bit_and map (2 ^ 32 - 1 - 2)) ≡ refused_bits map
clear-refused map = refused_by (bit_and map (2 ^ 32 - 1 - 2)) map (λ i h.
    ap (λ n. min n (bit_at (2 ^ 32 - 1 - (2 + 4 + 32)) i)) (clear_bit map i (bit_at (2 ^ 32 - 1 - 2) i) refl)
    ∙ refused_clear (bit_at map i) (bit_at (2 ^ 32 - 1 - 2) i) (bit_at (2 ^ 32 - 1 - (2 + 4 + 32)) i) (bit_at (4 + 32) i) (bit_at 2 i) (bit_at-lt map i) (bit_at-lt (4 + 32) i) (bit_at-lt 2 i) (but_bit i h) (refused_bit i h))

-- ---- the role entries

joined_front : (a b : List ℕ) (dev : ℕ) → 128 ≤ length a → dev < 128 → get_or (take 128 a ++ drop 128 b) dev 0xfffe ≡ get_or a dev 0xfffe
joined_front a b dev long h =
    let enough : dev < length (take 128 a) = omega (arith, length-take-le 128 a long, h) in
    get_or_append_left (take 128 a) (drop 128 b) 0xfffe dev enough ∙ get_or-take 128 a dev 0xfffe h

joined_back : (a b : List ℕ) (dev : ℕ) → 128 ≤ length a → 128 ≤ dev → get_or (take 128 a ++ drop 128 b) dev 0xfffe ≡ get_or b dev 0xfffe
joined_back a b dev long h =
    let same : 128 + (dev - 128) ≡ dev = omega (arith, h) in
    get_or-append_right (take 128 a) (drop 128 b) 128 dev 0xfffe (length-take-le 128 a long) h ∙ get_or-drop 128 b (dev - 128) 0xfffe ∙ ap (λ k. get_or b k 0xfffe) same

pub joined_drop : (a b : List ℕ) → 128 ≤ length a → drop 128 (take 128 a ++ drop 128 b) ≡ drop 128 b
joined_drop a b long = drop-append-drop 128 b (take 128 a) 128 (omega arith) (length-take-le 128 a long)

-- ---- what a planned superblock has

-- the newest's fields, event count and entries, and the device of its own
pub record IsPlannedOf (newest own sb : Sb) : Type 0 where
  pub events : sb.events ≡ newest.events
  pub array : SaysSame newest sb
  pub roles : sb.dev_roles ≡ take 128 newest.dev_roles ++ drop 128 own.dev_roles
  pub uuid : sb.set_uuid ≡ own.set_uuid
  pub number : sb.dev_number ≡ own.dev_number
  pub start : sb.data_offset ≡ own.data_offset
  pub table : sb.max_dev ≡ own.max_dev
  pub refused : refused_bits sb.feature_map ≡ refused_bits own.feature_map

module _ (N own : Sb) where
  map : ℕ
  map = shared_map own.feature_map N.feature_map

  -- whichever of the bits 2 and the recovery offset it gets
  planned-with : (feature_map offset : ℕ) → bit_at feature_map 2 ≡ bit_at N.feature_map 2 → bit_at feature_map 5 ≡ bit_at N.feature_map 5
      → refused_bits feature_map ≡ refused_bits own.feature_map
      → IsPlannedOf N own (record (with_shared N own) { events = N.events; dev_roles = take 128 N.dev_roles ++ drop 128 own.dev_roles; feature_map = feature_map; recovery_offset = offset })
  planned-with feature_map offset two five refused = record {
    events = refl;
    array = record {
      level = refl;
      layout = refl;
      size = refl;
      chunksize = refl;
      raid_disks = refl;
      new_level = refl;
      reshape_position = refl;
      delta_disks = refl;
      new_layout = refl;
      new_chunk = refl;
      resync_offset = refl;
      reshaping = ap (λ n. n == 1) (sym two);
      backward = ap (λ n. is_negative N.delta_disks || is_zero N.delta_disks && (n == 1)) (sym five);
    };
    roles = refl;
    uuid = refl;
    number = refl;
    start = refl;
    table = refl;
    refused = refused;
  }

pub planned-of : (N own : Sb) (g : Give) → IsPlannedOf N own (planned N g own)
planned-of N own Same = planned-with N own (shared_map own.feature_map N.feature_map) own.recovery_offset (bit-2 own.feature_map N.feature_map) (bit-5 own.feature_map N.feature_map) (shared-refused own.feature_map N.feature_map)
planned-of N own Spare = planned-with N own (shared_map own.feature_map N.feature_map) own.recovery_offset (bit-2 own.feature_map N.feature_map) (bit-5 own.feature_map N.feature_map) (shared-refused own.feature_map N.feature_map)
planned-of N own (give.Role role (Some offset)) =
    let map : ℕ = shared_map own.feature_map N.feature_map in
    planned-with N own (bit_or map 2) offset (set_bit map 2 0 refl ∙ no_more (bit_at map 2) ∙ bit-2 own.feature_map N.feature_map)
    (set_bit map 5 0 refl ∙ no_more (bit_at map 5) ∙ bit-5 own.feature_map N.feature_map) (set-refused map ∙ shared-refused own.feature_map N.feature_map)
planned-of N own (give.Role role None) =
    let map : ℕ = shared_map own.feature_map N.feature_map in
    planned-with N own (bit_and map (2 ^ 32 - 1 - 2)) 0 (clear_bit map 2 1 refl ∙ no_less (bit_at map 2) (bit_at-lt map 2) ∙ bit-2 own.feature_map N.feature_map)
    (clear_bit map 5 1 refl ∙ no_less (bit_at map 5) (bit_at-lt map 5) ∙ bit-5 own.feature_map N.feature_map) (clear-refused map ∙ shared-refused own.feature_map N.feature_map)

-- its role entries from 128 on are its own
pub planned-late : (N own sb : Sb) → IsPlannedOf N own sb → 128 ≤ length N.dev_roles → HasNoLateRoles own → HasNoLateRoles sb
planned-late N own sb p long late dev h =
    ap is_role ((λ i. cond (nat_lt dev (p.table i)) (get_or (p.roles i) dev 0xfffe) 0xfffe) ∙ ap (λ e. cond (nat_lt dev own.max_dev) e 0xfffe) (joined_back N.dev_roles own.dev_roles dev long h)) ∙ late dev h

-- as the newest it would say the same
pub planned-new : (N own sb : Sb) → IsPlannedOf N own sb → 128 ≤ length N.dev_roles → 128 ≤ N.max_dev → 128 ≤ own.max_dev → HasNoLateRoles own → IsNewestLike N sb
planned-new N own sb p long room room' late = record {
  array = p.array;
  entries = λ dev h.
      ap (λ b. cond b (get_or N.dev_roles dev 0xfffe) 0xfffe) (is_below dev N.max_dev (omega (arith, h, room)))
      ∙ sym (joined_front N.dev_roles own.dev_roles dev long h) ∙ (λ i. get_or (sym p.roles i) dev 0xfffe)
      ∙ sym (ap (λ b. cond b (get_or sb.dev_roles dev 0xfffe) 0xfffe) (is_below dev sb.max_dev (omega (arith, h, p.table, room'))));
  late = planned-late N own sb p long late;
}
  where
    is_below : (a b : ℕ) → a < b → nat_lt a b ≡ true
    is_below a b h = grind (arith, nat_tests)

-- ---- the recovery bit

-- what is given leaves a device as it was: it had no recovery bit, or it keeps it
pub recovering-same : (N own : Sb) → is_recovering (planned N Same own) ≡ is_recovering own
recovering-same N own = ap (λ n. n == 1) (bit-1 own.feature_map N.feature_map)

pub recovering-spare : (N own : Sb) → is_recovering (planned N Spare own) ≡ is_recovering own
recovering-spare N own = ap (λ n. n == 1) (bit-1 own.feature_map N.feature_map)

pub recovering-none : (N own : Sb) (role : ℕ) → is_recovering (planned N (give.Role role None) own) ≡ false
recovering-none N own role =
    let map : ℕ = shared_map own.feature_map N.feature_map in
    ap (λ n. n == 1) (clear_bit map 1 0 refl ∙ nothing (bit_at map 1))
  where
    nothing : (a : ℕ) → min a 0 ≡ 0
    nothing a = omega arith
