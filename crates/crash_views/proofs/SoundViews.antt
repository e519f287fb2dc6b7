-- Images that are read as views that are right are sound.
use Rattle.std.proofs.Common.{◌≡◌, ◌⊎◌, inl, inr, ℕ, ◌+◌, ◌-◌, ◌<◌, ◌≤◌, ◌==◌, ◌&&◌, nat_le, Bool, true, false, not, cond, min, List, length, Option, Some, None, option_map, unwrap_or, refl, sym, ◌∙◌, ap, ap₂, subst, arith}
use Rattle.std.specs.Prelude.{IsTrue, find}
use Rattle.std.specs.Option.{option_or, option_map_or}
use Rattle.std.proofs.lemmas.Bool.Decides.{nat_tests}
use Rattle.history.specs.raid_types_the_Refusal_TheVariants.{MembersMissing, DirtyDegraded}
use Rattle.history.specs.raid_types_the_Shape.{Shape}
use Rattle.history.specs.raid_types_the_Span.{Span}
use Rattle.history.specs.raid_types_Sectors.{Sector, zero_sector}
use Rattle.history.specs.raid_types_Search.{least_below}
use Rattle.history.specs.raid_types_Shapes.{is_valid_shape, tolerance}
use Rattle.history.specs.bank_Given.{Given}
use Rattle.history.specs.bank_Tape.{Contents, IsDrawn}
use Rattle.history.specs.raid_layout_Layout.{place, stripe_of, row_roles, is_parity_only}
use Rattle.stripe_list.proofs.raid_layout_Places.{place-role_below}
use Rattle.stripe_list.proofs.raid_layout_OnlyParity.{parity_only-all}
use Rattle.history.specs.raid_parity_Fills.{IsGoodBut}
use Rattle.history.specs.raid_parity_Parity.{Row, lacking_in, AreEquationsMet, fill}
use Rattle.history.specs.raid_parity_Rows.{parity_count, row_without}
use Rattle.history.proofs.raid_parity_Columns.{tabulate-same}
use Rattle.history.proofs.raid_parity_OwnFills.{good-rows-stay-good}
use Rattle.history.specs.sb_specs_the_Members.{Members}
use Rattle.history.specs.sb_specs_Reading.{Scope, Reading, reading, is_clean, is_backward, shape_of, target_of, final_shape, shapes_in_force, role_count, list_length, next_window, data_offset_of}
use Rattle.history.specs.sb_specs_Verdict.{missing_count, too_many, holds_data}
use Rattle.history.specs.sb_specs_Verdict as verdicts
use Rattle.history.proofs.sb_specs_ReadAlike.{none_below}
use Rattle.stripe_list.specs.stripe_row_Rows.{reading_of, is_missing, is_held, held_slot, IsTolerated}
use Rattle.stripe_list.specs.stripe_row_Rows as rows
use Rattle.stripe_list.proofs.stripe_row_Losses.{row_is}
use Rattle.stripe_list.proofs.stripe_row_NewRow.{lacking_few}
use Rattle.stripe_list.specs.Full.{full_sector, RowStands}
use Rattle.stripe_list.proofs.FullLaws.{full-good, held-full, places-are-full, standing-is-full}
use Rattle.history.specs.Opened.{IsSound, HasGoodRows}
use Rattle.history.specs.Reshaped.{IsGoodRow}
use Rattle.history.specs.Stands.{verdict, shape_for, covers, held_sector, held_row, placed_sector}
use Rattle.history.specs.ActiveSection.{section_for}
use Rattle.history.specs.reshape_geometry_Geometry.{window, side, unit, list_end}
use Rattle.crash_views.specs.Regions.{header_in, open_by, place_by, ArePlaced, DoWithout, IsReadOf, refusal_for}
use Rattle.crash_views.specs.Views.{Disk, Ledger, IsTail, IsOutside, IsSettled, IsViewRight}
use Rattle.crash_views.specs.Sound.{RightViewsAreSound}
use Rattle.crash_views.proofs.Alike.{for-both, found-none, any-both, valid-for, row-below, final-alike, window-alike}
use Rattle.crash_views.proofs.Standing.{length-is, shape-is, section-here, held-same, read-refused}
use Rattle.crash_views.proofs.Judged.{no-rows, slot-of, sector-held, within-few}
use Rattle.crash_views.proofs.Tails as edge

-- ---- a row that stands as a list is good

parities-are : (shape : Shape) (row : ℕ) → parity_count (row_roles shape row) ≡ tolerance shape
parities-are shape row = by (shape.level == 6) _
  where
    by : (b : Bool) (q : ℕ) → ◌≡◌ {A = ℕ} (option_map_or (λ q. 2) (cond b (Some q) None) 1) (cond b 2 1)
    by true q = refl
    by false q = refl

module _ (r : Reading) (c : Contents) (shape : Shape) (list : ℕ → Sector) (row : ℕ) (valid : IsTrue (is_valid_shape shape)) (below : row < r.newest.size) (few : IsTolerated r shape) (stands : RowStands r c shape list row) where
  abbrev lacks : ℕ → Bool
  lacks role = not (is_held r role row)

  abbrev full : ℕ → Sector
  full = full_sector shape list row

  full-but : IsGoodBut (row_roles shape row) full lacks
  full-but =
      let good = full-good shape list row valid stands.whole in
      record { valid = good.valid; whole = good.whole; good = good.good; tolerated = lacking_few r shape row full below few }

  held-is : row_without lacks shape.disks full ≡ rows.held_row c r shape row
  held-is = row_is c r shape row full full (held-full stands)

  pub good-row : (found : Reading) → held_row c found shape row ≡ rows.held_row c r shape row → IsGoodRow c found shape row
  good-row found same =
      let alike : row_without lacks shape.disks full ≡ held_row c found shape row = held-is ∙ sym same in
      record {
        tolerated = subst (λ (l : Row). length (lacking_in l) ≤ tolerance shape) alike
            (subst (λ (n : ℕ). length (lacking_in (row_without lacks shape.disks full)) ≤ n) (parities-are shape row) full-but.tolerated);
        parity = subst (λ (l : Row). AreEquationsMet (row_roles shape row) l) alike (good-rows-stay-good (row_roles shape row) full lacks full-but);
      }

-- ---- members that are refused for nothing

record IsUnrefused (m : Members) : Type 0 where
  pub few : DoWithout m
  pub state : (is_clean m.newest ≡ true) ⊎ (least_below (role_count m.newest) (λ role. verdicts.is_missing m.roles role && holds_data m.newest role) ≡ None)

unrefused : (m : Members) → refusal_for m ≡ None → IsUnrefused m
unrefused m none = of (find (too_many m.roles) (shapes_in_force m.newest)) (is_clean m.newest) (least_below (role_count m.newest) (λ role. verdicts.is_missing m.roles role && holds_data m.newest role)) refl refl refl none
  where
    few-of : find (too_many m.roles) (shapes_in_force m.newest) ≡ None → DoWithout m
    few-of is =
        let both = found-none (too_many m.roles) (shape_of m.newest) (target_of m.newest) is in
        record { old = within-few (tolerance (shape_of m.newest)) (missing_count m.roles (shape_of m.newest)) both.0; final = within-few (tolerance (final_shape m.newest)) (missing_count m.roles (final_shape m.newest)) both.1 }

    of : (found : Option Shape) (clean : Bool) (lowest : Option ℕ) → find (too_many m.roles) (shapes_in_force m.newest) ≡ found → is_clean m.newest ≡ clean
        → least_below (role_count m.newest) (λ role. verdicts.is_missing m.roles role && holds_data m.newest role) ≡ lowest
        → option_or (option_map (λ shape. MembersMissing (missing_count m.roles shape) (tolerance shape)) found) (cond clean None (option_map (λ (role : ℕ). DirtyDegraded role) lowest)) ≡ None → IsUnrefused m
    of (Some shape) clean lowest a b e no_refusal = absurd (cc)
    of None true lowest a b e no_refusal = record { few = few-of a; state = inl b }
    of None false None a b e no_refusal = record { few = few-of a; state = inr e }
    of None false (Some role) a b e no_refusal = absurd (cc)

-- ---- an image

module _ (scope : Scope) (given : Given) (m : Members) (placed : ArePlaced scope given m) (c : Contents) (r : Reading) (read : IsReadOf scope m r) where
  held-row-same : (shape : Shape) (row : ℕ) → held_row c r shape row ≡ rows.held_row c (reading_of m) shape row
  held-row-same shape row = tabulate-same shape.disks (λ role. held_sector c r role row) (λ role. rows.held_sector c (reading_of m) role row) (λ role lt. held-same scope given m placed c r read role row)

  rows-good : (values : ℕ → List Sector) (d : Disk) → IsDrawn d c → DoWithout m → IsSettled scope m values d → HasGoodRows scope c r
  rows-good values d drawn few settled x within outside =
      let below : x < list_length m.newest = (let same = length-is scope given m placed c r read in omega (arith, within, same)) in
      let out : IsOutside scope m (header_in scope c) x = record { within = below; outside = ap (λ (o : Option Span). covers o x) (sym (section-here scope given m placed c r read)) ∙ outside } in
      subst (λ (s : Shape). IsGoodRow c r s (place s x).row) (sym (shape-is scope given m placed c r read x))
      (good-row (reading_of m) c (shape_for m.newest x) settled.list (place_by m.newest x).row (valid-for m.newest placed.fit x) (row-below m.newest placed.fit x below)
      (for-both (λ s. IsTolerated (reading_of m) s) m.newest few.old few.final x) (settled.rows c drawn x out) r (held-row-same (shape_for m.newest x) (place_by m.newest x).row))

-- ---- an image that is read as a view that is right

module _ (sound : Type 0) (scope : Scope) (given : Given) (told : Ledger) (m : Members) (d : Disk) (c : Contents) (r : Reading) (premise : sound) (drawn : IsDrawn d c) (is : reading scope c ≡ Some r) (read : IsReadOf scope m r)
    (right : IsViewRight sound scope given told m d) (assembles : verdict scope c ≡ None) where
  clear : IsUnrefused m
  clear = unrefused m (sym (read-refused scope given m right.placed c r read is) ∙ assembles)

  clean-same : is_clean m.newest ≡ is_clean r.newest
  clean-same = ap (λ (n : ℕ). is_clean (record m.newest { resync_offset = n })) read.array.resync_offset

  module _ (x : ℕ) (tail : IsTail m.newest x) where
    abbrev first : ℕ
    first = edge.first m.newest right.placed.fit x tail

    listed : first < list_length m.newest
    listed = edge.listed m.newest right.placed.fit x tail

    same-row : (place (final_shape m.newest) first).row ≡ (place (final_shape m.newest) x).row
    same-row = edge.same-row m.newest right.placed.fit x tail

    new-there : shape_for m.newest first ≡ final_shape m.newest
    new-there = edge.new-there m.newest right.placed.fit x tail

    row-in : (place (final_shape m.newest) x).row < m.newest.size
    row-in = (let below = subst (λ (s : Shape). (place s first).row < m.newest.size) new-there (row-below m.newest right.placed.fit first listed) in let same = same-row in omega (arith, below, same))

    no-window : next_window m.newest ≡ None
    no-window =
        ap (λ (b : Bool). cond b (window (shape_of m.newest) (final_shape m.newest) m.newest.size (is_backward m.newest) m.newest.reshape_position) None) tail.active
        ∙ ap (λ (b : Bool). window (shape_of m.newest) (final_shape m.newest) m.newest.size b m.newest.reshape_position) tail.forth
        ∙ ap (λ (b : Bool). cond b None (Some (record { lo = m.newest.reshape_position; hi = min (m.newest.reshape_position + unit (shape_of m.newest) (final_shape m.newest)) (list_end (shape_of m.newest) (final_shape m.newest) m.newest.size) })))
        (le-true (list_length m.newest) m.newest.reshape_position (let t = tail.through in omega (arith, t)))
      where
        le-true : (a b : ℕ) → a ≤ b → nat_le a b ≡ true
        le-true a b le = grind (arith, nat_tests, le)

    none-open : (header : Sector) → open_by scope m.newest header ≡ None
    none-open header = ap (section_for scope (λ s k. header) scope.backup) no-window ∙ of scope.backup
      where
        of : (backup : Option ℕ) → section_for scope (λ s k. header) backup None ≡ None
        of (Some b) = refl
        of None = refl

    role-in : (place (final_shape m.newest) x).role < (final_shape m.newest).disks
    role-in = place-role_below (final_shape m.newest) right.placed.fit.valid.final x

    clean-here : is_missing (reading_of m) (place (final_shape m.newest) x).role ≡ true → is_clean m.newest ≡ true
    clean-here gone = of clear.state
      where
        second : (a b : Bool) → a ≡ true → (a && b) ≡ false → b ≡ false
        second true b e f = f
        second false b e f = absurd (cc)

        back : (b : Bool) → not b ≡ false → b ≡ true
        back true e = refl
        back false e = absurd (cc)

        of : (is_clean m.newest ≡ true) ⊎ (least_below (role_count m.newest) (λ role. verdicts.is_missing m.roles role && holds_data m.newest role) ≡ None) → is_clean m.newest ≡ true
        of (inl clean) = clean
        of (inr none) =
            let role : ℕ = (place (final_shape m.newest) x).role in
            let lt = role-in in
            let nothing = none_below (role_count m.newest) (λ role. verdicts.is_missing m.roles role && holds_data m.newest role) role (omega (arith, lt)) none in
            let both = any-both (λ shape. not (is_parity_only shape role)) (shape_of m.newest) (target_of m.newest) (second (is_missing (reading_of m) role) (holds_data m.newest role) gone nothing) in
            absurd ((parity_only-all (final_shape m.newest) right.placed.fit.valid.final role role-in).0 (back (is_parity_only (final_shape m.newest) role) both.1) x refl)

    -- what stands there is zero
    pub zero-there : rows.standing_sector c (reading_of m) (final_shape m.newest) (place (final_shape m.newest) x).row (place (final_shape m.newest) x).role ≡ zero_sector
    zero-there = elim (slot-of (held_slot (reading_of m) (place (final_shape m.newest) x).role (place (final_shape m.newest) x).row)) [
      | inl holds ↦ (
          let role : ℕ = (place (final_shape m.newest) x).role in
          let row : ℕ = (place (final_shape m.newest) x).row in
          ap (λ (o : Option Sector). unwrap_or o (fill (row_roles (final_shape m.newest) row) (rows.held_row c (reading_of m) (final_shape m.newest) row) role)) (sector-held c m role row holds.0 holds.1)
          ∙ right.tails premise x holds.0 tail holds.1 (c holds.0 (data_offset_of (reading_of m) holds.0 + row)) (drawn holds.0 (data_offset_of (reading_of m) holds.0 + row)))
      | inr none ↦ (
          let role : ℕ = (place (final_shape m.newest) x).role in
          let row : ℕ = (place (final_shape m.newest) x).row in
          let gone = no-rows m role row none row-in in
          let s = right.settled (clean-here gone) clear.few premise in
          let out : IsOutside scope m (header_in scope c) first = record { within = listed; outside = ap (λ (o : Option Span). covers o first) (none-open (header_in scope c)) } in
          let stands : RowStands (reading_of m) c (final_shape m.newest) s.list (place (final_shape m.newest) x).row =
          subst (RowStands (reading_of m) c (final_shape m.newest) s.list) same-row
          (subst (λ (s' : Shape). RowStands (reading_of m) c s' s.list (place s' first).row) new-there (s.rows c drawn first out)) in
          standing-is-full (reading_of m) c (final_shape m.newest) s.list row right.placed.fit.valid.final row-in clear.few.final stands role role-in
          ∙ places-are-full (final_shape m.newest) s.list x right.placed.fit.valid.final
          ∙ s.zeros x tail)
    ]

  pub sound-here : IsSound scope c r
  sound-here = record {
    rows = λ clean. rows-good scope given m right.placed c r read told.values d drawn clear.few (right.settled (clean-same ∙ clean) clear.few premise);
    sections = λ active backup span here named. elim (right.headers (read.array.reshaping ∙ active) premise backup (c backup 0) here (drawn backup 0) span named) [
      | inl next ↦ inl (sym (window-alike m.newest r.newest read.array) ∙ next)
      | inr new ↦ inr (λ x low high. (λ i. side (sym read.array.backward i) (sym read.array.reshape_position i) x) ∙ new x low high)
    ];
    tail = λ active forth through x past stripe. (
        let long = length-is scope given m right.placed c r read in
        let final = final-alike m.newest r.newest read.array in
        let tail : IsTail m.newest x = record {
          active = read.array.reshaping ∙ active;
          forth = read.array.backward ∙ forth;
          through = read.array.reshape_position ∙ through ∙ long;
          past = omega (arith, past, long);
          stripe = ap (λ (s : Shape). stripe_of s x) final ∙ stripe ∙ (λ i. stripe_of (sym final i) (long i - 1));
        } in
        ap (λ (s : Shape). placed_sector c r s x) (sym final)
        ∙ ap₂ (λ (own : Option Sector) (held : Row). unwrap_or own (fill (row_roles (final_shape m.newest) (place (final_shape m.newest) x).row) held (place (final_shape m.newest) x).role))
        (held-same scope given m right.placed c r read (place (final_shape m.newest) x).role (place (final_shape m.newest) x).row)
        (held-row-same scope given m right.placed c r read (final_shape m.newest) (place (final_shape m.newest) x).row)
        ∙ zero-there x tail);
  }

pub right-views-sound : (sound : Type 0) → RightViewsAreSound sound
right-views-sound sound scope given told m d c r premise drawn is read right assembles = sound-here sound scope given told m d c r premise drawn is read right assembles
