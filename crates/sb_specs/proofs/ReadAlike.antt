-- Superblocks that are suited to a newest one, and have the same parts as others, read the same.
use Rattle.std.proofs.Common.{◌≡◌, inl, inr, ℕ, zero, suc, ◌+◌, ◌-◌, ◌*◌, ◌^◌, ◌<◌, ◌≤◌, ◌==◌, Bool, true, false, cond, ◌||◌, ◌&&◌, nat_lt, max, min, List, [], ◌∷◌, ◌++◌, get_or, Option, Some, None, unwrap_or, option_map, refl, sym, ◌∙◌, ap, ap₂, subst, arith}
use Rattle.std.specs.Prelude.{find, nat_le, not, pos, ◌-ℤ◌, option_to_list}
use Rattle.std.specs.Option.{option_or}
use Rattle.std.specs.List.{list_any}
use Rattle.std.proofs.lemmas.Bool.{cases_lt}
use Rattle.std.proofs.lemmas.Bool.Decides.{nat_tests}
use Rattle.reshape_geometry.specs.raid_types_the_Shape.{Shape}
use Rattle.bank.specs.raid_types_the_Role.{Role}
use Rattle.reshape_geometry.specs.raid_types_the_Refusal.{Refusal}
use Rattle.reshape_geometry.specs.raid_types_the_Refusal_TheVariants.{BadField, TwoHolders, MembersMissing, DirtyDegraded, PositionNotOnUnit}
use Rattle.reshape_geometry.specs.raid_types_Shapes.{data_disks, tolerance, is_level, is_layout, is_chunk, is_disk_count, is_multiple, has_slot}
use Rattle.reshape_geometry.specs.raid_types_Search.{tabulate, least_below, any_below}
use Rattle.bank.proofs.raid_types_Least.{least_below-none}
use Rattle.bank.proofs.raid_types_Tabulated.{length-tabulate, get_or-tabulate}
use Rattle.std.proofs.lemmas.List.{get_or_past}
use Rattle.bank.specs.raid_types_the_Role_TheVariants.{Missing}
use Rattle.sb_codec.specs.declared.sb.Sb.{Sb}
use Rattle.sb_codec.specs.Features.{refused_bits}
use Rattle.reshape_geometry.specs.Geometry.{unit}
use Rattle.raid_layout.specs.Layout.{is_parity_only}
use Rattle.sb_specs.specs.Reading.{Reading, reading_by, reading_of, role_state, holder, is_reshaping, shape_of, target_of, final_shape, shapes_in_force, role_count, list_length, count_of, is_fresh, entry_of, holds_role, state_of, holder_from, spares_from, is_recovering, lies_within}
use Rattle.sb_specs.specs.Verdict.{members_missing, dirty_degraded, off_unit, unit_of, first_of_all, bad_field, judged_fields, is_bad_entry, is_late_entry, first_bad_entry, is_bad_size, is_role, is_holder, fresh_from, two_holders, too_many, missing_count, is_missing}
use Rattle.sb_specs.specs.Reads.{SaysSame, IsNewestLike, HaveSameDevice, has_spare, held_in, spare_in, roles_refusal, IsSound, AreReadLike, IsSameReading}
use Rattle.sb_specs.proofs.ReadLists.{Own, IsTop, has-newest, held-here, holder-same, spares-at, none-fresh, none-unsupported, none-shared}
use Rattle.sb_specs.proofs.ValidFields.{valid-shapes, few-roles}

-- ---- what says the same of the array

-- the judged fields, by what the slots have
abbrev judged : Sb → Bool → Bool → List (ℕ × Bool)
judged sb within room =
    (72, not (is_level sb.level)) ∷
    (76, not (is_layout sb.level sb.layout)) ∷
    (80, is_bad_size sb) ∷
    (88, not (is_chunk sb.chunksize)) ∷
    (92, not (is_disk_count sb.level sb.raid_disks)) ∷
    (100, is_reshaping sb && not (sb.new_level == sb.level)) ∷
    (104, is_reshaping sb && not (nat_le sb.reshape_position (list_length sb))) ∷
    (112, is_reshaping sb && not (is_disk_count sb.level (shape_of sb).disks)) ∷
    (116, is_reshaping sb && not (is_layout sb.level sb.new_layout)) ∷
    (120, is_reshaping sb && not (is_chunk sb.new_chunk)) ∷
    (128, within) ∷
    (200, not (nat_lt sb.events (2 ^ 62))) ∷
    (220, room) ∷ []

module _ (M N : Sb) (a : SaysSame M N) where
  pub shape-same : shape_of M ≡ shape_of N
  shape-same i = record {
    level = a.level i;
    layout = a.layout i;
    chunk = a.chunksize i;
    disks = cond (a.reshaping i) (count_of (pos (a.raid_disks i) -ℤ a.delta_disks i)) (a.raid_disks i);
  }

  target-same : target_of M ≡ target_of N
  target-same i = cond (a.reshaping i) (Some (record { level = a.new_level i; layout = a.new_layout i; chunk = a.new_chunk i; disks = a.raid_disks i })) None

  final-same : final_shape M ≡ final_shape N
  final-same i = unwrap_or (target-same i) (shape-same i)

  pub count-same : role_count M ≡ role_count N
  count-same i = max (shape-same i).disks (final-same i).disks

  length-same : list_length M ≡ list_length N
  length-same i = min (data_disks (shape-same i)) (data_disks (final-same i)) * a.size i

  forces-same : shapes_in_force M ≡ shapes_in_force N
  forces-same i = shape-same i ∷ option_to_list (target-same i)

  dirty-same : (roles : List Role) → dirty_degraded M roles ≡ dirty_degraded N roles
  dirty-same roles i =
      cond (a.resync_offset i == 2 ^ 64 - 1) None
      (option_map (λ role. DirtyDegraded role)
      (least_below (count-same i) (λ role. is_missing roles role && list_any (λ (shape : Shape). not (is_parity_only shape role)) (forces-same i))))

  unit-same : unit_of M ≡ unit_of N
  unit-same i = unit (shape-same i) (final-same i)

  off-same : off_unit M ≡ off_unit N
  off-same i =
      cond (not (a.reshaping i) || is_multiple (a.reshape_position i) (unit-same i) || (a.reshape_position i == length-same i))
      None (Some (PositionNotOnUnit (a.reshape_position i) (unit-same i)))

  pub refused-same : (roles : List Role) → roles_refusal M roles ≡ roles_refusal N roles
  refused-same roles i = first_of_all (
      option_map (λ (shape : Shape). MembersMissing (missing_count roles shape) (tolerance shape)) (find (too_many roles) (forces-same i)) ∷
      dirty-same roles i ∷ off-same i ∷ [])

  -- the judged fields, where the slots have none that fails
  fields-same : nat_lt M.events (2 ^ 62) ≡ nat_lt N.events (2 ^ 62) → (within room : Bool) → within ≡ false → room ≡ false
      → find (λ (f : ℕ × Bool). f.1) (judged_fields M []) ≡ find (λ (f : ℕ × Bool). f.1) (judged N within room)
  fields-same events within room w r = path ∙ sym (λ i. find (λ (f : ℕ × Bool). f.1) (judged N (w i) (r i)))
    where
      path : find (λ (f : ℕ × Bool). f.1) (judged_fields M []) ≡ find (λ (f : ℕ × Bool). f.1) (judged N false false)
      path i = find (λ (f : ℕ × Bool). f.1) (
          (72, not (is_level (a.level i))) ∷
          (76, not (is_layout (a.level i) (a.layout i))) ∷
          (80, not (nat_le 1 (a.size i) && nat_le (a.size i) (2 ^ 48) && is_multiple (a.size i) (a.chunksize i) && (not (a.reshaping i) || is_multiple (a.size i) (a.new_chunk i)))) ∷
          (88, not (is_chunk (a.chunksize i))) ∷
          (92, not (is_disk_count (a.level i) (a.raid_disks i))) ∷
          (100, a.reshaping i && not (a.new_level i == a.level i)) ∷
          (104, a.reshaping i && not (nat_le (a.reshape_position i) (length-same i))) ∷
          (112, a.reshaping i && not (is_disk_count (a.level i) (shape-same i).disks)) ∷
          (116, a.reshaping i && not (is_layout (a.level i) (a.new_layout i))) ∷
          (120, a.reshaping i && not (is_chunk (a.new_chunk i))) ∷
          (128, false) ∷
          (200, not (events i)) ∷
          (220, false) ∷ [])

  -- none fails of the one where none does of the other
  pub fields-kept : nat_lt M.events (2 ^ 62) ≡ nat_lt N.events (2 ^ 62) → find (λ (f : ℕ × Bool). f.1) (judged_fields M []) ≡ None → find (λ (f : ℕ × Bool). f.1) (judged_fields N []) ≡ None
  fields-kept events none = sym (fields-same events false false refl refl) ∙ none

-- the judged fields by themselves, where the slots have none that fails
pub fields-alone : (N : Sb) (slots : List (Sb × ℕ)) → list_any (λ s. is_holder N s.0 && not (lies_within N s.1 s.0)) slots ≡ false → list_any (λ s. nat_lt s.0.max_dev 128) slots ≡ false
    → find (λ (f : ℕ × Bool). f.1) (judged_fields N slots) ≡ None → find (λ (f : ℕ × Bool). f.1) (judged_fields N []) ≡ None
fields-alone N slots within room none =
    fields-same N N same refl (list_any (λ s. is_holder N s.0 && not (lies_within N s.1 s.0)) slots) (list_any (λ s. nat_lt s.0.max_dev 128) slots) within room ∙ none
  where
    same : SaysSame N N
    same = record {
      level = refl;
      layout = refl;
      size = refl;
      chunksize = refl;
      raid_disks = refl;
      new_level = refl;
      reshape_position = refl;
      delta_disks = refl;
      new_layout = refl;
      new_chunk = refl;
      resync_offset = refl;
      reshaping = refl;
      backward = refl;
    }

-- ---- numbers

pub none_below : (n : ℕ) (test : ℕ → Bool) (j : ℕ) → j < n → least_below n test ≡ None → test j ≡ false
unfolding least_below
none_below zero test j h none = absurd (omega (arith, h))
none_below (suc n) test j h none = elim (cases_lt j n) [
  | inl below ↦ none_below n test j below (first (least_below n test) (cond (test n) (Some n) None) none)
  | inr past ↦ subst (λ (k : ℕ). test k ≡ false) (let same : n ≡ j = omega (arith, h, past) in same) (last (least_below n test) (test n) none)
]
  where
    first : (a b : Option ℕ) → option_or a b ≡ None → a ≡ None
    first None b e = refl
    first (Some x) b e = absurd (cc)

    last : (a : Option ℕ) (b : Bool) → option_or a (cond b (Some n) None) ≡ None → b ≡ false
    last None true e = absurd (cc)
    last None false e = refl
    last (Some x) b e = absurd (cc)

any-same : (n : ℕ) (f g : ℕ → Bool) → ((k : ℕ) → k < n → f k ≡ g k) → any_below n f ≡ any_below n g
unfolding any_below
any-same zero f g same = refl
any-same (suc n) f g same = ap₂ (λ x y. x || y) (any-same n f g (λ k h. same k (omega (arith, h)))) (same n (omega arith))

pub tabulate-same : {X : Type 0} (n : ℕ) (f g : ℕ → X) → ((k : ℕ) → k < n → f k ≡ g k) → tabulate n f ≡ tabulate n g
unfolding tabulate
tabulate-same zero f g same = refl
tabulate-same (suc n) f g same = ap₂ (λ x y. x ++ y ∷ []) (tabulate-same n f g (λ k h. same k (omega (arith, h)))) (same n (omega arith))

no_role : (entry role : ℕ) → is_role entry ≡ false → role < 16 → (entry == role) ≡ false
no_role entry role none h = grind (arith, nat_tests)

no_less : (entry count : ℕ) → is_role entry ≡ false → count ≤ 16 → nat_lt entry count ≡ false
no_less entry count none h = grind (arith, nat_tests)

is_past : (a b : ℕ) → b ≤ a → nat_lt a b ≡ false
is_past a b h = grind (arith, nat_tests)

-- ---- by the one newest superblock and by the other

module _ (M N : Sb) (sound : IsSound M) (events : N.events ≡ M.events) (new : IsNewestLike M N) where
  pub few : role_count M ≤ 16
  few = few-roles M (valid-shapes M [] sound.fields)

  fresh-same : (sb : Sb) → is_fresh N sb ≡ is_fresh M sb
  fresh-same sb i = nat_le (events i) (sb.events + 1)

  pub role-same : (role : ℕ) (sb : Sb) → role < 16 → holds_role N role sb ≡ holds_role M role sb
  role-same role sb h = ap₂ (λ x y. x && y) (fresh-same sb) (elim (cases_lt sb.dev_number 128) [
    | inl below ↦ ap (λ (e : ℕ). e == role) (sym (new.entries sb.dev_number below))
    | inr past ↦ no_role (entry_of N sb.dev_number) role (new.late sb.dev_number past) h ∙ sym (no_role (entry_of M sb.dev_number) role (sound.late sb.dev_number past) h)
  ])

  pub held-same : (role slot : ℕ) (x : Option Sb) → role < 16 → held_in N role slot x ≡ held_in M role slot x
  held-same role slot None h = refl
  held-same role slot (Some sb) h = ap (λ b. cond b (Some (state_of slot sb)) None) (role-same role sb h)

  holder-kept : (sb : Sb) → is_holder N sb ≡ is_holder M sb
  holder-kept sb = elim (cases_lt sb.dev_number 128) [
    | inl below ↦ ap₂ nat_lt (sym (new.entries sb.dev_number below)) (sym (count-same M N new.array))
    | inr past ↦ ap (nat_lt (entry_of N sb.dev_number)) (sym (count-same M N new.array)) ∙ no_less (entry_of N sb.dev_number) (role_count M) (new.late sb.dev_number past) few
        ∙ sym (no_less (entry_of M sb.dev_number) (role_count M) (sound.late sb.dev_number past) few)
  ]

  within-same : (len : ℕ) (sb : Sb) → lies_within N len sb ≡ lies_within M len sb
  within-same len sb i = nat_le 10 sb.data_offset && nat_le (sb.data_offset + sym new.array.size i) len

  pub spare-same : (len : ℕ) (x : Option Sb) → spare_in N len x ≡ spare_in M len x
  spare-same len None = refl
  spare-same len (Some sb) = elim (cases_lt sb.dev_number 128) [
    | inl below ↦ (λ i. fresh-same sb i && not (is_recovering sb) && nat_lt sb.dev_number 128 && (sym (new.entries sb.dev_number below) i == 0xffff) && within-same len sb i)
    | inr past ↦ never (is_fresh N sb) (is_recovering sb) (nat_lt sb.dev_number 128) (entry_of N sb.dev_number == 0xffff) (lies_within N len sb) (is_past sb.dev_number 128 past)
        ∙ sym (never (is_fresh M sb) (is_recovering sb) (nat_lt sb.dev_number 128) (entry_of M sb.dev_number == 0xffff) (lies_within M len sb) (is_past sb.dev_number 128 past))
  ]
    where
      never : (a b c d e : Bool) → c ≡ false → (a && not b && c && d && e) ≡ false
      never true true c d e is = refl
      never true false true d e is = absurd (cc)
      never true false false d e is = refl
      never false b c d e is = refl

  -- no role entry is bad
  entry-good : (j : ℕ) → is_bad_entry N j ≡ false
  entry-good j = elim (cases_lt j 128) [
    | inl below ↦ sym (same j below) ∙ none_below 384 (is_bad_entry M) j (omega (arith, below)) (no_entry (find (λ (f : ℕ × Bool). f.1) (judged_fields M [])) (first_bad_entry M []) sound.fields)
    | inr past ↦ ap (λ b. b && (nat_le (role_count N) (entry_of N j) || any_below j (λ before. entry_of N before == entry_of N j) || nat_le 128 j)) (new.late j past)
  ]
    where
      same : (j : ℕ) → j < 128 → is_bad_entry M j ≡ is_bad_entry N j
      same j below = ap₂ (λ x y. x && y) (ap is_role (new.entries j below))
          (ap₂ (λ x y. x || y || nat_le 128 j) (ap₂ nat_le (count-same M N new.array) (new.entries j below))
          (any-same j (λ before. entry_of M before == entry_of M j) (λ before. entry_of N before == entry_of N j)
          (λ k h. ap₂ (λ x y. x == y) (new.entries k (omega (arith, h, below))) (new.entries j below))))

      no_entry : (a : Option (ℕ × Bool)) (b : Option ℕ) → option_or (option_map (λ (f : ℕ × Bool). BadField f.0) a) (option_map (λ index. BadField (256 + 2 * index)) b) ≡ None → b ≡ None
      no_entry None None e = refl
      no_entry None (Some x) e = absurd (cc)
      no_entry (Some x) b e = absurd (cc)

-- ---- the two readings

module _ (sectors : ℕ → ℕ) (lost : ℕ) (M N : Sb) (X Y : Own) (sound : IsSound M) (like : AreReadLike sectors lost M X Y) (top : IsTop X N) where
  events : N.events ≡ M.events
  events =
      let least : like.top.1.events ≤ N.events = top.most like.top.0 like.top.1 like.top.2 in
      let most : N.events ≤ M.events = (like.suited top.slot N top.there).events in
      omega (arith, least, most, like.top.3)

  new : IsNewestLike M N
  new = like.first top.slot N top.there events (λ s b lt is as_new. absurd (let low = top.lowest s b is (as_new ∙ sym events) in omega (arith, low, lt)))

  fresh-by : (sb : Sb) → is_fresh N sb ≡ true → is_fresh M sb ≡ true
  fresh-by sb is = sym (fresh-same M N sound events new sb) ∙ is

  no_bits : list_any (λ s. not (refused_bits s.0.feature_map == 0)) (fresh_from N sectors 0 X) ≡ false
  no_bits = none-fresh N sectors (λ s. not (refused_bits s.0.feature_map == 0)) 0 X
      (λ k sb is fresh. ap (λ (n : ℕ). not (n == 0)) ((like.suited k sb is).bits (fresh-by sb fresh)))

  has_room : list_any (λ s. nat_lt s.0.max_dev 128) (fresh_from N sectors 0 X) ≡ false
  has_room = none-fresh N sectors (λ s. nat_lt s.0.max_dev 128) 0 X
      (λ k sb is fresh. is_past sb.max_dev 128 ((like.suited k sb is).room (fresh-by sb fresh)))

  lies : list_any (λ s. is_holder N s.0 && not (lies_within N s.1 s.0)) (fresh_from N sectors 0 X) ≡ false
  lies = none-fresh N sectors (λ s. is_holder N s.0 && not (lies_within N s.1 s.0)) 0 X
      (λ k sb is fresh. fails (is_holder N sb) (lies_within N (sectors (0 + k)) sb)
      (λ held. within-same M N sound events new (sectors (0 + k)) sb
      ∙ subst (λ (j : ℕ). lies_within M (sectors j) sb ≡ true) (let same : k ≡ 0 + k = omega arith in same)
      ((like.suited k sb is).within (fresh-by sb fresh) (sym (holder-kept M N sound events new sb) ∙ held))))
    where
      fails : (a b : Bool) → (a ≡ true → b ≡ true) → (a && not b) ≡ false
      fails true b h = ap not (h refl)
      fails false b h = refl

  none-late : (j : ℕ) → is_late_entry (fresh_from N sectors 0 X) j ≡ false
  none-late j = elim (cases_lt j 128) [
    | inl below ↦ never (list_any (λ s. is_role (entry_of s.0 j)) (fresh_from N sectors 0 X)) (nat_le 128 j) (before j below)
    | inr past ↦ ap (λ b. b && nat_le 128 j) (none-fresh N sectors (λ s. is_role (entry_of s.0 j)) 0 X (λ k sb is fresh. (like.suited k sb is).late (fresh-by sb fresh) j past))
  ]
    where
      before : (j : ℕ) → j < 128 → nat_le 128 j ≡ false
      before j h = grind (arith, nat_tests)

      never : (a b : Bool) → b ≡ false → (a && b) ≡ false
      never true b is = is
      never false b is = refl

  no_field : bad_field N (fresh_from N sectors 0 X) ≡ None
  no_field =
      let fields = fields-same M N new.array (ap (λ (n : ℕ). nat_lt n (2 ^ 62)) (sym events)) (list_any (λ s. is_holder N s.0 && not (lies_within N s.1 s.0)) (fresh_from N sectors 0 X)) (list_any (λ s. nat_lt s.0.max_dev 128) (fresh_from N sectors 0 X)) lies has_room in
      ap₂ (λ f e. option_or (option_map (λ (f : ℕ × Bool). BadField f.0) f) (option_map (λ (index : ℕ). BadField (256 + 2 * index)) e))
      (sym fields ∙ none (find (λ (f : ℕ × Bool). f.1) (judged_fields M [])) (option_map (λ (index : ℕ). BadField (256 + 2 * index)) (first_bad_entry M [])) sound.fields)
      (least_below-none 384 (λ j. is_late_entry (fresh_from N sectors 0 X) j || is_bad_entry N j) (λ j h. ap₂ (λ a b. a || b) (none-late j) (entry-good M N sound events new j)))
    where
      none : (a : Option (ℕ × Bool)) (b : Option Refusal) → option_or (option_map (λ (f : ℕ × Bool). BadField f.0) a) b ≡ None → a ≡ None
      none None b e = refl
      none (Some x) b e = absurd (cc)

  apart : two_holders (fresh_from N sectors 0 X) ≡ None
  apart = ap (option_map (λ dev. TwoHolders dev)) (none-shared N sectors 0 X
      (λ s t a b differ is is' fresh fresh'. like.apart s t a b differ is is' (fresh-by a fresh) (fresh-by b fresh')))

  holders : (role : ℕ) → role < 16 → holder_from N role 0 X ≡ holder_from M role 0 Y
  holders role h = holder-same N M role 0 X Y like.long
      (λ k. subst (λ (j : ℕ). held_in N role j (get_or X k None) ≡ held_in M role j (get_or Y k None)) (let same : k ≡ 0 + k = omega arith in same)
      (held-same M N sound events new role k (get_or X k None) h ∙ (like.part k).role role h))

  roles : (reading_by sectors X N).roles ≡ (reading_by sectors Y M).roles
  roles =
      ap (λ (n : ℕ). tabulate n (λ role. holder_from N role 0 X)) (sym (count-same M N new.array))
      ∙ tabulate-same (role_count M) (λ role. holder_from N role 0 X) (λ role. holder_from M role 0 Y)
      (λ k h. holders k (omega (arith, h, few M N sound events new)))

  spares : (slot : ℕ) → has_slot lost slot ≡ false → has_spare (spares_from N sectors 0 X) slot ≡ has_spare (spares_from M sectors 0 Y) slot
  spares slot left =
      let here : slot ≡ 0 + slot = omega arith in
      spares-at N sectors 0 slot slot X here ∙ spare-same M N sound events new (sectors slot) (get_or X slot None)
      ∙ (like.part slot).spare left ∙ sym (spares-at M sectors 0 slot slot Y here)

  devices : (role slot : ℕ) → holder (role_state (reading_by sectors Y M) role) ≡ Some slot → HaveSameDevice (get_or X slot None) (get_or Y slot None)
  devices role slot is = elim (cases_lt role (role_count M)) [
    | inl below ↦
        let here : holder (holder_from M role 0 Y) ≡ Some slot = ap holder (sym (get_or-tabulate (role_count M) (λ role. holder_from M role 0 Y) role Missing below)) ∙ is in
        let found = held-here M role Y slot here in
        (like.part slot).device role found.0 found.1
    | inr past ↦ absurd (let none : holder Missing ≡ Some slot = ap holder (sym (get_or_past (tabulate (role_count M) (λ role. holder_from M role 0 Y)) role Missing (omega (arith, length-tabulate (role_count M) (λ role. holder_from M role 0 Y), past)))) ∙ is in cc)
  ]

  pub same-reading : IsSameReading sectors lost (reading_by sectors Y M) (reading_by sectors X N)
  same-reading = record {
    array = new.array;
    roles = roles;
    spares = spares;
    devices = devices;
    refusal = (λ i. first_of_all (none-unsupported (fresh_from N sectors 0 X) no_bits i ∷ no_field i ∷ apart i ∷ members_missing N (roles i) ∷ dirty_degraded N (roles i) ∷ off_unit N ∷ []))
        ∙ sym (refused-same M N new.array (reading_by sectors Y M).roles);
  }

-- they have a reading, and it is that by the other newest superblock of the others
pub read-alike : (sectors : ℕ → ℕ) (lost : ℕ) (M : Sb) (X Y : Own) → IsSound M → AreReadLike sectors lost M X Y
    → (found : Reading) × (reading_of sectors X ≡ Some found) × IsSameReading sectors lost (reading_by sectors Y M) found
read-alike sectors lost M X Y sound like =
    let top = has-newest X like.top.0 like.top.1 like.top.2 in
    (reading_by sectors X top.newest, ap (option_map (reading_by sectors X)) top.is, same-reading sectors lost M top.newest X Y sound like top.top)
