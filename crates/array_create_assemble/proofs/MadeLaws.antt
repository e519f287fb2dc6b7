-- What the superblocks of an array that is made say of it, which is refused for nothing.
use Rattle.std.proofs.Common.{◌≡◌, ◌≢◌, inl, inr, ℕ, zero, suc, ◌+◌, ◌-◌, ◌*◌, ◌^◌, ◌<◌, ◌≤◌, ◌==◌, Bool, true, false, cond, ◌||◌, not, nat_lt, nat_le, List, [], ◌∷◌, ◌++◌, length, take, drop, get_or, replicate, Option, Some, None, unwrap_or, option_map, refl, sym, ◌∙◌, ap, ap₂, subst, arith}
use Rattle.std.specs.Prelude.{◌&&◌, find, max}
use Rattle.std.specs.List.{list_any}
use Rattle.std.specs.Int.{bit_at}
use Rattle.std.specs.Option.{option_or, option_map_or}
use Rattle.std.proofs.lemmas.Bool.{cases_lt}
use Rattle.std.proofs.lemmas.Bool.Decides.{nat_tests}
use Rattle.std.proofs.lemmas.List.{ext_get_or, get_or-take, get_or-drop, get_or-replicate, get_or_past, length-take-le, length-drop, length-replicate, get_or_append_left}
use Rattle.array_found_laws.specs.raid_types_the_Role.{Role}
use Rattle.array_found_laws.specs.raid_types_the_Role_TheVariants.{Whole, Recovering, Missing}
use Rattle.array_found_laws.specs.raid_types_the_Shape.{Shape}
use Rattle.array_found_laws.specs.raid_types_the_Refusal_TheVariants.{NoSuperblock, BadField, TwoHolders, MembersMissing}
use Rattle.array_found_laws.specs.raid_types_Shapes.{is_level, is_layout, is_chunk, is_disk_count, is_multiple, tolerance}
use Rattle.array_found_laws.specs.raid_types_Search.{tabulate, count_below, any_below}
use Rattle.array_found_laws.proofs.raid_types_Tabulated.{length-tabulate, get_or-tabulate}
use Rattle.bank.proofs.raid_types_Least.{least_below-none}
use Rattle.array_found_laws.specs.sb_codec_the_Sb.{Sb}
use Rattle.array_found_laws.specs.sb_codec_Features.{refused_bits}
use Rattle.bank.specs.Given.{Given, sizes}
use Rattle.array_found_laws.specs.sb_specs_the_Members.{Members}
use Rattle.array_found_laws.specs.sb_specs_Reading.{Reading, reading_of, reading_by, newest_of, newer, holder_from, spares_from, holds_role, is_fresh, is_recovering, is_spare, entry_of, role_count, shape_of, lies_within, is_whole}
use Rattle.array_found_laws.specs.sb_specs_Reads.{held_in}
use Rattle.array_found_laws.specs.sb_specs_Verdict.{fresh_from, unsupported, bad_field, is_bad_size, is_bad_entry, is_late_entry, is_role, is_holder, two_holders, members_missing, is_missing, missing_count, members_refusal, members_verdict, first_of_all}
use Rattle.array_found_laws.specs.sb_specs_Election.{IsElected}
use Rattle.sb_election.proofs.sb_specs_ReadLists.{holder-step, none-fresh, none-unsupported, none-shared}
use Rattle.array_found_laws.proofs.sb_specs_Searches.{any_below-none}
use Rattle.sb_add_spare.specs.history_Created.{first_entries}
use Rattle.array_create_assemble.specs.declared.spec.CreateSpec.{CreateSpec}
use Rattle.array_create_assemble.specs.Making.{created_sb}
use Rattle.array_create_assemble.specs.Creating.{HasRoom, rows_end}
use Rattle.array_create_assemble.specs.Filling.{IsMade, AreFirst}

abbrev pub Own : Type 0
Own = List (Option Sb)

below : (a b : ℕ) → a < b → nat_lt a b ≡ true
below a b h = grind (arith, nat_tests, h)

not_below : (a b : ℕ) → b ≤ a → nat_lt a b ≡ false
not_below a b h = grind (arith, nat_tests, h)

differ : (a b : ℕ) → a ≢ b → (a == b) ≡ false
differ a b h = grind (arith, nat_tests)

max-same : (a : ℕ) → max a a ≡ a
max-same a = omega arith

-- ---- lists of superblocks

-- where all have one event count, so has the newest
newest-events : (X : Own) (events : ℕ) → ((k : ℕ) (sb : Sb) → get_or X k None ≡ Some sb → sb.events ≡ events)
    → (newest : Sb) → newest_of X ≡ Some newest → newest.events ≡ events
newest-events [] events all newest is = absurd (cc)
newest-events (None ∷ X) events all newest is = newest-events X events (λ k. all (suc k)) newest is
newest-events (Some sb ∷ X) events all newest is =
    by (newest_of X) (newest-events X events (λ k. all (suc k))) is
  where
    one : (b : Bool) (y : Sb) → y.events ≡ events → Some (cond b y sb) ≡ Some newest → newest.events ≡ events
    one true y e is = let same : y ≡ newest = cc in ap (λ n. n.events) (sym same) ∙ e
    one false y e is = let same : sb ≡ newest = cc in ap (λ n. n.events) (sym same) ∙ all 0 sb refl

    by : (o : Option Sb) → ((newest : Sb) → o ≡ Some newest → newest.events ≡ events) → Some (newer sb o) ≡ Some newest → newest.events ≡ events
    by None rest is = let same : sb ≡ newest = cc in ap (λ n. n.events) (sym same) ∙ all 0 sb refl
    by (Some y) rest is = one (nat_lt sb.events y.events) y (rest y refl) is

-- and it is the first one
newest-first : (sb : Sb) (X : Own) → ((k : ℕ) (other : Sb) → get_or X k None ≡ Some other → other.events ≡ sb.events) → newest_of (Some sb ∷ X) ≡ Some sb
newest-first sb X all = by (newest_of X) refl
  where
    no_later : (a b : ℕ) → b ≡ a → nat_lt a b ≡ false
    no_later a b e = grind (arith, nat_tests, e)

    by : (o : Option Sb) → newest_of X ≡ o → Some (newer sb o) ≡ Some sb
    by None is = refl
    by (Some y) is = ap (λ b. Some (cond b y sb)) (no_later sb.events y.events (newest-events X sb.events all y is))

-- a list whose first entry is there
newest-here : (X : Own) (sb : Sb) → get_or X 0 None ≡ Some sb → ((k : ℕ) (other : Sb) → get_or X k None ≡ Some other → other.events ≡ sb.events) → newest_of X ≡ Some sb
newest-here [] sb is all = absurd (cc)
newest-here (None ∷ X) sb is all = absurd (cc)
newest-here (Some x ∷ X) sb is all =
    let same : x ≡ sb = cc in
    subst (λ n. newest_of (Some x ∷ X) ≡ Some n) same
    (newest-first x X (λ k other at. all (suc k) other at ∙ ap (λ n. n.events) (sym same)))

-- the first that holds a role
holder-found : (N : Sb) (role i k : ℕ) (X : Own) (state : Role) → held_in N role (i + k) (get_or X k None) ≡ Some state
    → ((j : ℕ) → j < k → held_in N role (i + j) (get_or X j None) ≡ None) → holder_from N role i X ≡ state
holder-found N role i k [] state here before = absurd (cc)
holder-found N role i zero (x ∷ X) state here before =
    let first : i + 0 ≡ i = omega arith in
    holder-step N role i x X
    ∙ ap (λ o. unwrap_or o (holder_from N role (i + 1) X)) (subst (λ j. held_in N role j x ≡ Some state) first here)
holder-found N role i (suc k) (x ∷ X) state here before =
    let first : i + 0 ≡ i = omega arith in
    let next : i + suc k ≡ i + 1 + k = omega arith in
    holder-step N role i x X
    ∙ ap (λ o. unwrap_or o (holder_from N role (i + 1) X)) (subst (λ j. held_in N role j x ≡ None) first (before 0 (omega arith)))
    ∙ holder-found N role (i + 1) k X state (subst (λ j. held_in N role j (get_or X k None) ≡ Some state) next here)
    (λ j h. let step : i + suc j ≡ i + 1 + j = omega arith in
    subst (λ m. held_in N role m (get_or X j None) ≡ None) step (before (suc j) (omega (arith, h))))

no-spares : (N : Sb) (sectors : ℕ → ℕ) (i : ℕ) (X : Own) → ((k : ℕ) (sb : Sb) → get_or X k None ≡ Some sb → is_spare N (sectors (i + k)) sb ≡ false)
    → spares_from N sectors i X ≡ []
no-spares N sectors i [] none = refl
no-spares N sectors i (None ∷ X) none =
    no-spares N sectors (i + 1) X (λ k sb at. let step : i + suc k ≡ i + 1 + k = omega arith in
    subst (λ m. is_spare N (sectors m) sb ≡ false) step (none (suc k) sb at))
no-spares N sectors i (Some x ∷ X) none =
    let first : i + 0 ≡ i = omega arith in
    ap (λ b. cond b (i ∷ spares_from N sectors (i + 1) X) (spares_from N sectors (i + 1) X))
    (subst (λ m. is_spare N (sectors m) x ≡ false) first (none 0 x refl))
    ∙ no-spares N sectors (i + 1) X (λ k sb at. let step : i + suc k ≡ i + 1 + k = omega arith in
    subst (λ m. is_spare N (sectors m) sb ≡ false) step (none (suc k) sb at))

-- ---- searches

none-counted : (n : ℕ) (test : ℕ → Bool) → ((k : ℕ) → k < n → test k ≡ false) → count_below n test ≡ 0
unfolding count_below
none-counted zero test fails = refl
none-counted (suc n) test fails =
    ap₂ (λ a b. a + cond b 1 0) (none-counted n test (λ k h. fails k (omega (arith, h)))) (fails n (omega arith))

none-bad : {a b c d e f g h i j k l m : Bool} → a ≡ false → b ≡ false → c ≡ false → d ≡ false → e ≡ false → f ≡ false → g ≡ false
    → h ≡ false → i ≡ false → j ≡ false → k ≡ false → l ≡ false → m ≡ false
    → ◌≡◌ {A = Option (ℕ × Bool)} (find (λ f. f.1) ((72, a) ∷ (76, b) ∷ (80, c) ∷ (88, d) ∷ (92, e) ∷ (100, f) ∷ (104, g) ∷ (112, h) ∷ (116, i) ∷ (120, j) ∷ (128, k) ∷ (200, l) ∷ (220, m) ∷ [])) None
none-bad pa pb pc pd pe pf pg ph pi pj pk pl pm = λ x. find (λ f. f.1) ((72, pa x) ∷ (76, pb x) ∷ (80, pc x) ∷ (88, pd x) ∷ (92, pe x) ∷ (100, pf x) ∷ (104, pg x)
    ∷ (112, ph x) ∷ (116, pi x) ∷ (120, pj x) ∷ (128, pk x) ∷ (200, pl x) ∷ (220, pm x) ∷ [])

pub same-tabulated : {A : Type 0} (n : ℕ) (f g : ℕ → A) → ((k : ℕ) → k < n → f k ≡ g k) → tabulate n f ≡ tabulate n g
unfolding tabulate
same-tabulated zero f g same = refl
same-tabulated (suc n) f g same = ap₂ (λ a b. a ++ b ∷ []) (same-tabulated n f g (λ k h. same k (omega (arith, h)))) (same n (omega arith))

-- ---- one superblock

-- the role entries of a new array
entry-is : (disks : ℕ) (second : List ℕ) (k : ℕ) → k < 128 → get_or (first_entries disks ++ second) k 0xfffe ≡ cond (nat_lt k disks) k 0xfffe
entry-is disks second k h =
    let f : ℕ → ℕ = λ number. cond (nat_lt number disks) number 0xfffe in
    get_or_append_left (tabulate 128 f) second 0xfffe k (omega (arith, h, length-tabulate 128 f)) ∙ get_or-tabulate 128 f k 0xfffe h

module _ (bank : Given) (backup : Option ℕ) (spec : CreateSpec) (room : HasRoom bank backup spec) where
  abbrev disks : ℕ
  disks = spec.shape.disks

  -- that of a member, with some checksum
  abbrev made : ℕ → ℕ → List ℕ → ℕ → Sb
  made number sectors second csum = record (created_sb spec number sectors second) { sb_csum = csum }

  module _ (sectors : ℕ) (second : List ℕ) (csum : ℕ) where
    abbrev N : Sb
    N = made 0 sectors second csum

    entry-of : (k : ℕ) → entry_of N k ≡ cond (nat_lt k disks) k 0xfffe
    entry-of k = elim (cases_lt k 128) [
      | inl lt ↦ ap (λ b. cond b (get_or (first_entries disks ++ second) k 0xfffe) 0xfffe) (below k 128 lt) ∙ entry-is disks second k lt
      | inr past ↦ ap (λ b. cond b (get_or (first_entries disks ++ second) k 0xfffe) 0xfffe) (not_below k 128 past)
          ∙ sym (ap (λ b. cond b k 0xfffe) (not_below k disks (omega (arith, past, room.disks))))
    ]

    entry-role : (k : ℕ) → k < disks → entry_of N k ≡ k
    entry-role k h = entry-of k ∙ ap (λ b. cond b k 0xfffe) (below k disks h)

    entry-none : (k : ℕ) → disks ≤ k → entry_of N k ≡ 0xfffe
    entry-none k h = entry-of k ∙ ap (λ b. cond b k 0xfffe) (not_below k disks h)

    module _ (X : Own) (sec : ℕ → ℕ) (long : (k : ℕ) → k < disks → rows_end spec ≤ sec k)
        (is : (k : ℕ) (sb : Sb) → get_or X k None ≡ Some sb → (k < disks) × IsMade spec k (sec k) sb)
        (there : (k : ℕ) → k < disks → (sb : Sb) × (get_or X k None ≡ Some sb)) where
      number : (k : ℕ) (sb : Sb) → get_or X k None ≡ Some sb → sb.dev_number ≡ k
      number k sb at = ap (λ n. n.dev_number) (is k sb at).1.made

      events : (k : ℕ) (sb : Sb) → get_or X k None ≡ Some sb → sb.events ≡ 1
      events k sb at = ap (λ n. n.events) (is k sb at).1.made

      features : (k : ℕ) (sb : Sb) → get_or X k None ≡ Some sb → sb.feature_map ≡ 0
      features k sb at = ap (λ n. n.feature_map) (is k sb at).1.made

      offset : (k : ℕ) (sb : Sb) → get_or X k None ≡ Some sb → sb.data_offset ≡ spec.offset
      offset k sb at = ap (λ n. n.data_offset) (is k sb at).1.made

      most : (k : ℕ) (sb : Sb) → get_or X k None ≡ Some sb → sb.max_dev ≡ 128
      most k sb at = ap (λ n. n.max_dev) (is k sb at).1.made

      fresh : (k : ℕ) (sb : Sb) → get_or X k None ≡ Some sb → is_fresh N sb ≡ true
      fresh k sb at = ap (λ e. nat_le 1 (e + 1)) (events k sb at)

      still : (k : ℕ) (sb : Sb) → get_or X k None ≡ Some sb → is_recovering sb ≡ false
      still k sb at = ap (λ f. bit_at f 1 == 1) (features k sb at)

      entry : (k : ℕ) (sb : Sb) → get_or X k None ≡ Some sb → entry_of N sb.dev_number ≡ k
      entry k sb at = ap (λ n. entry_of N n) (number k sb at) ∙ entry-role k (is k sb at).0

      holds : (role k : ℕ) (sb : Sb) → get_or X k None ≡ Some sb → holds_role N role sb ≡ (k == role)
      holds role k sb at = ap₂ (λ a b. a && (b == role)) (fresh k sb at) (entry k sb at)

      held : (role k : ℕ) (sb : Sb) → get_or X k None ≡ Some sb → held_in N role (0 + k) (get_or X k None) ≡ cond (k == role) (Some (Whole k)) None
      held role k sb at =
          let same : 0 + k ≡ k = omega arith in
          ap (λ o. held_in N role (0 + k) o) at
          ∙ ap₂ (λ a b. cond a (Some (cond b (Recovering (0 + k)) (Whole (0 + k)))) None) (holds role k sb at) (still k sb at)
          ∙ ap (λ n. cond (k == role) (Some (Whole n)) None) same

      role-state : (role : ℕ) → role < disks → holder_from N role 0 X ≡ Whole role
      role-state role h = holder-found N role 0 role X (Whole role)
          (held role role (there role h).0 (there role h).1 ∙ ap (λ b. cond b (Some (Whole role)) None) (same role))
          (λ j lt. let found = there j (omega (arith, lt, h)) in
          held role j found.0 found.1 ∙ ap (λ b. cond b (Some (Whole j)) None) (differ j role (λ e. absurd (omega (arith, e, lt)))))
        where
          same : (a : ℕ) → (a == a) ≡ true
          same a = grind (arith, nat_tests)

      roles : tabulate (role_count N) (λ role. holder_from N role 0 X) ≡ tabulate disks (λ role. Whole role)
      roles =
          ap (λ n. tabulate n (λ role. holder_from N role 0 X)) (max-same disks)
          ∙ same-tabulated disks (λ role. holder_from N role 0 X) (λ role. Whole role) role-state

      spares : spares_from N sec 0 X ≡ []
      spares = no-spares N sec 0 X (λ k sb at. isn't_spare k sb at)
        where
          isn't_spare : (k : ℕ) (sb : Sb) → get_or X k None ≡ Some sb → is_spare N (sec (0 + k)) sb ≡ false
          isn't_spare k sb at = four (is_fresh N sb) (not (is_recovering sb)) (nat_lt sb.dev_number 128) (entry_of N sb.dev_number == 0xffff) (lies_within N (sec (0 + k)) sb)
              (ap (λ n. n == 0xffff) (entry k sb at) ∙ differ k 0xffff (λ e. absurd (omega (arith, e, (is k sb at).0, room.disks))))
            where
              four : (a b c d e : Bool) → d ≡ false → (a && b && c && d && e) ≡ false
              four a b c d e none = grind (arith, none)

      -- ---- the refusals

      abbrev slots : List (Sb × ℕ)
      slots = fresh_from N sec 0 X

      supported : unsupported slots ≡ None
      supported = none-unsupported slots (none-fresh N sec (λ s. not (refused_bits s.0.feature_map == 0)) 0 X
          (λ k sb at fresh. ap (λ f. not (refused_bits f == 0)) (features k sb at)))

      within : list_any (λ s. is_holder N s.0 && not (lies_within N s.1 s.0)) slots ≡ false
      within = none-fresh N sec (λ s. is_holder N s.0 && not (lies_within N s.1 s.0)) 0 X
          (λ k sb at fresh. ap (λ n. is_holder N sb && not (nat_le 10 n && nat_le (n + spec.size) (sec (0 + k)))) (offset k sb at)
          ∙ lies (is_holder N sb) spec.offset spec.size (sec (0 + k)) (omega (arith, room.behind))
          (let same : 0 + k ≡ k = omega arith in subst (λ m. spec.offset + spec.size ≤ sec m) (sym same) (long k (is k sb at).0)))
        where
          lies : (a : Bool) (offset size have : ℕ) → 10 ≤ offset → offset + size ≤ have → (a && not (nat_le 10 offset && nat_le (offset + size) have)) ≡ false
          lies a offset size have h k = grind (arith, nat_tests, h, k)

      entries : list_any (λ s. nat_lt s.0.max_dev 128) slots ≡ false
      entries = none-fresh N sec (λ s. nat_lt s.0.max_dev 128) 0 X (λ k sb at fresh. ap (λ n. nat_lt n 128) (most k sb at))

      good-entry : (k : ℕ) → is_bad_entry N k ≡ false
      good-entry k = elim (cases_lt k disks) [
        | inl role ↦ three (nat_lt (entry_of N k) 0xfffe) (nat_le (role_count N) (entry_of N k)) (any_below k (λ before. entry_of N before == entry_of N k)) (nat_le 128 k)
            (ap₂ (λ a b. nat_le a b) (max-same disks) (entry-role k role) ∙ not_most disks k role)
            (any_below-none k (λ before. entry_of N before == entry_of N k) (λ j lt.
            ap₂ (λ a b. a == b) (entry-role j (omega (arith, lt, role))) (entry-role k role) ∙ differ j k (λ e. absurd (omega (arith, e, lt)))))
            (not_most 128 k (omega (arith, role, room.disks)))
        | inr past ↦ ap (λ n. nat_lt n 0xfffe && (nat_le (role_count N) n || any_below k (λ before. entry_of N before == n) || nat_le 128 k)) (entry-none k past)
      ]
        where
          three : (a b c d : Bool) → b ≡ false → c ≡ false → d ≡ false → (a && (b || c || d)) ≡ false
          three a b c d x y z = grind (arith, x, y, z)

          not_most : (a b : ℕ) → b < a → nat_le a b ≡ false
          not_most a b h = grind (arith, nat_tests, h)

      none-late : (j : ℕ) → is_late_entry slots j ≡ false
      none-late j = elim (cases_lt j 128) [
        | inl lt ↦ never (list_any (λ s. is_role (entry_of s.0 j)) slots) (nat_le 128 j) (before j lt)
        | inr past ↦ ap (λ b. b && nat_le 128 j) (none-fresh N sec (λ s. is_role (entry_of s.0 j)) 0 X (λ k sb at fresh.
            ap (λ s. is_role (entry_of s j)) (is k sb at).1.made
            ∙ ap (λ b. is_role (cond b (get_or (created_sb spec k (sec k) (is k sb at).1.second).dev_roles j 0xfffe) 0xfffe)) (not_below j 128 past)))
      ]
        where
          before : (a : ℕ) → a < 128 → nat_le 128 a ≡ false
          before a h = grind (arith, nat_tests, h)

          never : (a b : Bool) → b ≡ false → (a && b) ≡ false
          never true b is = is
          never false b is = refl

      limits : (is_level spec.shape.level ≡ true) × (is_layout spec.shape.level spec.shape.layout ≡ true) × (is_chunk spec.shape.chunk ≡ true) × (is_disk_count spec.shape.level spec.shape.disks ≡ true)
      limits = four (is_level spec.shape.level) (is_layout spec.shape.level spec.shape.layout) (is_chunk spec.shape.chunk) (is_disk_count spec.shape.level spec.shape.disks) room.valid
        where
          four : (a b c d : Bool) → (a && b && c && d) ≡ true → (a ≡ true) × (b ≡ true) × (c ≡ true) × (d ≡ true)
          four true true true true e = (refl, refl, refl, refl)
          four true true true false e = absurd (cc)
          four true true false d e = absurd (cc)
          four true false c d e = absurd (cc)
          four false b c d e = absurd (cc)

      good-size : is_bad_size N ≡ false
      good-size = fits spec.size (is_multiple spec.size spec.shape.chunk) room.multiple room.some room.short
        where
          fits : (n : ℕ) (b : Bool) → b ≡ true → 1 ≤ n → n ≤ 2 ^ 48 → not (nat_le 1 n && nat_le n (2 ^ 48) && b && true) ≡ false
          fits n b e h k = grind (arith, nat_tests, e, h, k)

      good-fields : bad_field N slots ≡ None
      good-fields =
          ap₂ (λ a b. option_or (option_map (λ (f : ℕ × Bool). BadField f.0) a) (option_map (λ index. BadField (256 + 2 * index)) b))
          (none-bad (ap not limits.0) (ap not limits.1) good-size (ap not limits.2) (ap not limits.3) refl refl refl refl refl within refl entries)
          (least_below-none 384 (λ k. is_late_entry slots k || is_bad_entry N k) (λ k below. ap₂ (λ a b. a || b) (none-late k) (good-entry k)))

      apart : two_holders slots ≡ None
      apart = ap (λ o. option_map (λ dev. TwoHolders dev) o) (none-shared N sec 0 X
          (λ s t a b other at at' fresh fresh'. λ e. other (sym (number s a at) ∙ e ∙ number t b at')))

      abbrev whole : List Role
      whole = tabulate disks (λ role. Whole role)

      present-roles : members_missing N whole ≡ None
      present-roles = ap (λ b. option_map (λ (shape : Shape). MembersMissing (missing_count whole shape) (tolerance shape)) (cond b (Some (shape_of N)) None))
          (ap (λ n. nat_lt (tolerance spec.shape) n) (none-counted disks (is_missing whole)
          (λ k h. ap (λ r. not (is_whole r)) (get_or-tabulate disks (λ role. Whole role) k Missing h))) ∙ isn't (tolerance spec.shape))
        where
          isn't : (n : ℕ) → nat_lt n 0 ≡ false
          isn't n = grind (arith, nat_tests)

      abbrev said : Reading
      said = record { newest = N; own = X; roles = whole; spares = [] }

      accepted : members_refusal sec said ≡ None
      accepted = λ x. first_of_all (supported x ∷ good-fields x ∷ apart x ∷ present-roles x ∷ None ∷ None ∷ [])

-- ---- the members

module _ (bank : Given) (backup : Option ℕ) (spec : CreateSpec) (room : HasRoom bank backup spec) (own : Own) (few : bank.slots ≤ 32)
    (known : spec.shape.disks ≤ bank.slots) (some : 0 < spec.shape.disks) (first : AreFirst bank spec spec.shape.disks own) (newest : Sb) (here : get_or own 0 None ≡ Some newest) where
  abbrev X : Own
  X = take bank.slots own

  abbrev sec : ℕ → ℕ
  sec = (sizes bank).sectors

  count : length X ≡ bank.slots
  count = length-take-le bank.slots own (omega (arith, first.count, few))

  sector-count : (k : ℕ) → k < bank.slots → sec k ≡ bank.sectors k
  sector-count k h = ap (λ b. cond b (bank.sectors k) 0) (below k bank.slots h)

  -- an entry of the list is a member's
  is : (k : ℕ) (sb : Sb) → get_or X k None ≡ Some sb → (k < spec.shape.disks) × IsMade spec k (sec k) sb
  is k sb at = elim (cases_lt k spec.shape.disks) [
    | inl lt ↦ (let within : k < bank.slots = omega (arith, lt, known) in let found = first.made k lt in
        let same : found.0 ≡ sb = one (found.0) sb (sym found.1 ∙ sym (get_or-take bank.slots own k None within) ∙ at) in
        (lt, subst (λ n. IsMade spec k n sb) (sym (sector-count k within)) (subst (λ s. IsMade spec k (bank.sectors k) s) same found.2)))
    | inr past ↦ absurd (elim (cases_lt k bank.slots) [
      | inl within ↦ contrary sb (sym (first.none k past) ∙ sym (get_or-take bank.slots own k None within) ∙ at)
      | inr out ↦ contrary sb (sym (get_or_past X k None (omega (arith, out, count))) ∙ at)
    ])
  ]
    where
      one : (a b : Sb) → Some a ≡ Some b → a ≡ b
      one a b e = cc

      contrary : (sb : Sb) → ◌≡◌ {A = Option Sb} None (Some sb) → ⊥
      contrary sb e = absurd (cc)

  there : (k : ℕ) → k < spec.shape.disks → (sb : Sb) × (get_or X k None ≡ Some sb)
  there k lt = let found = first.made k lt in (found.0, get_or-take bank.slots own k None (omega (arith, lt, known)) ∙ found.1)

  at-first : get_or X 0 None ≡ Some newest
  at-first = get_or-take bank.slots own 0 None (omega (arith, some, known)) ∙ here

  newest-made : IsMade spec 0 (sec 0) newest
  newest-made = (is 0 newest at-first).1

  long : (k : ℕ) → k < spec.shape.disks → rows_end spec ≤ sec k
  long k lt = let same : sec k ≡ bank.sectors k = sector-count k (omega (arith, lt, known)) in omega (arith, same, room.within k lt)

  is-newest : newest_of X ≡ Some newest
  is-newest = newest-here X newest at-first (λ k other at. ap (λ n. n.events) (is k other at).1.made ∙ sym (ap (λ n. n.events) newest-made.made))

  abbrev all : List Role
  all = tabulate spec.shape.disks (λ role. Whole role)

  pub elected-made : (members : Members) → members.newest ≡ newest → members.own ≡ own → members.roles ≡ tabulate spec.shape.disks (λ role. Whole role) → members.spares ≡ [] → members.lost ≡ 0
      → IsElected (sizes bank).sectors (take bank.slots members.own) 0 members
  elected-made members newest-is own-is roles-are spares-are lost-is = record {
    says = ap (λ o. reading_of sec (take bank.slots o)) own-is ∙ says ∙ (λ x. Some (record {
      newest = newest-is' x;
      own = take (counted x) (own-is' x);
      roles = roles-are' x;
      spares = spares-are' x;
    }));
    accepted = ap (λ o. members_verdict sec (take bank.slots o)) own-is ∙ accepted-all;
    others = (λ x. drop (counted' x) (own-is x)) ∙ rest ∙ (λ x. replicate (32 - counted x) None);
    named = lost-is;
  }
    where
      newest-is' : newest ≡ members.newest
      newest-is' = sym newest-is

      own-is' : own ≡ members.own
      own-is' = sym own-is

      roles-are' : all ≡ members.roles
      roles-are' = sym roles-are

      spares-are' : [] ≡ members.spares
      spares-are' = sym spares-are

      counted : bank.slots ≡ length (take bank.slots members.own)
      counted = sym (ap (λ o. length (take bank.slots o)) own-is ∙ count)

      counted' : length (take bank.slots members.own) ≡ bank.slots
      counted' = ap (λ o. length (take bank.slots o)) own-is ∙ count

      says : reading_of sec X ≡ Some (record { newest = newest; own = X; roles = all; spares = [] })
      says = ap (λ o. option_map (reading_by sec X) o) is-newest
          ∙ ap₂ (λ (r : List Role) (l : List ℕ). Some (record { newest = newest; own = X; roles = r; spares = l })) all-roles all-spares
        where
          all-roles : tabulate (role_count newest) (λ role. holder_from newest role 0 X) ≡ all
          all-roles = subst (λ n. tabulate (role_count n) (λ role. holder_from n role 0 X) ≡ all) (sym newest-made.made)
              (roles bank backup spec room (sec 0) newest-made.second newest.sb_csum X sec long is there)

          all-spares : spares_from newest sec 0 X ≡ []
          all-spares = subst (λ n. spares_from n sec 0 X ≡ []) (sym newest-made.made)
              (spares bank backup spec room (sec 0) newest-made.second newest.sb_csum X sec long is there)

      accepted-all : members_verdict sec X ≡ None
      accepted-all = ap (λ o. option_map_or (members_refusal sec) o (Some NoSuperblock)) says
          ∙ subst (λ n. members_refusal sec (record { newest = n; own = X; roles = all; spares = [] }) ≡ None) (sym newest-made.made)
          (accepted bank backup spec room (sec 0) newest-made.second newest.sb_csum X sec long is there)

      rest : drop bank.slots own ≡ replicate (32 - bank.slots) None
      rest =
          let long : length (drop bank.slots own) ≡ 32 - bank.slots = length-drop bank.slots own ∙ ap (λ n. n - bank.slots) first.count in
          ext_get_or None (drop bank.slots own) (replicate (32 - bank.slots) None) (long ∙ sym (length-replicate (32 - bank.slots) None))
          (λ i h. get_or-drop bank.slots own i None ∙ first.none (bank.slots + i) (omega (arith, known))
          ∙ sym (get_or-replicate (32 - bank.slots) i None None (omega (arith, h, long))))
