-- A plan that places all alike is right where the members before it were; so where a reshape begins, and where it ends without a longer list.
use Rattle.std.proofs.Common.{◌≡◌, ℕ, zero, suc, ◌+◌, ◌*◌, ◌<◌, ◌≤◌, ◌&&◌, nat_lt, min, Bool, true, false, cond, List, [], ◌∷◌, Option, Some, None, unwrap_or, refl, sym, ◌∙◌, ap, ap₂, subst, arith}
use Rattle.std.proofs.lemmas.Bool.{and_parts}
use Rattle.std.proofs.lemmas.Bool.Decides.{nat_tests}
use Rattle.std.proofs.Math.Nat.{mul-le-mul_right}
use Rattle.crash_safety_laws.specs.raid_types_the_Shape.{Shape}
use Rattle.crash_safety_laws.specs.raid_types_the_Place.{Place}
use Rattle.crash_safety_laws.specs.raid_types_the_Span.{Span}
use Rattle.crash_safety_laws.specs.raid_types_Search.{count_below}
use Rattle.crash_safety_laws.specs.raid_types_Sectors.{Sector}
use Rattle.crash_safety_laws.specs.raid_types_Shapes.{data_disks, has_slot}
use Rattle.crash_safety_laws.specs.bank_Given.{Given}
use Rattle.crash_safety_laws.specs.bank_Tape.{Contents, IsIn}
use Rattle.crash_safety_laws.specs.raid_layout_Layout.{row_roles}
use Rattle.crash_safety_laws.specs.reshape_geometry_Geometry.{window}
use Rattle.crash_safety_laws.specs.sb_codec_the_Sb.{Sb}
use Rattle.crash_safety_laws.specs.sb_specs_the_Members.{Members}
use Rattle.crash_safety_laws.specs.sb_specs_Reading.{Scope, is_clean, is_reshaping, is_backward, shape_of, final_shape, list_length, next_window, data_offset_of}
use Rattle.crash_safety_laws.specs.stripe_row_Rows.{reading_of, is_missing, held_slot, IsTolerated}
use Rattle.crash_safety_laws.specs.stripe_row_Writes.{is_parity}
use Rattle.crash_safety_laws.specs.stripe_list_Full.{full_sector, RowStands}
use Rattle.crash_safety_laws.specs.bank_backup_Section.{is_header_of, names_span, has_section}
use Rattle.crash_safety_laws.specs.history_ActiveSection.{section_for}
use Rattle.crash_safety_laws.specs.history_Flat.{resized}
use Rattle.crash_safety_laws.specs.history_Stands.{shape_for, covers}
use Rattle.crash_safety_laws.specs.crash_views_Regions.{backup_of, header_in, place_by, AreShapesFit, ArePlaced, DoWithout}
use Rattle.crash_safety_laws.specs.crash_views_Views.{Disk, IsTail, IsOutside}
use Rattle.crash_safety_laws.specs.crash_views_Windows.{HasNoSection, ListStands}
use Rattle.crash_safety_laws.specs.Updates.{IsAtStart}
use Rattle.crash_reshape_laws.specs.Ends.{IsPlacedAs, IsKeptSlot, AreRolesKept, ArePlacesAlike, PlacesAlikeStand, ResizedTells, AlikePlansAreRight, ClearedIsPlain, BegunIsPlacedAlike, BeginsAreRight, BeginsAreSeenRight}
use Rattle.crash_safety_laws.proofs.crash_views_Alike.{role-in-shape}
use Rattle.crash_safety_laws.proofs.crash_views_Stands.{for-still, final-still, list-still}
use Rattle.crash_safety_laws.proofs.LessViews.{ends-place, updates-seen}
use Rattle.crash_safety_laws.proofs.crash_views_Tails.{some-listed}

-- ---- a row that is placed alike

pub row-alike : (m plan : Members) (c : Contents) (old new : Shape) (list : ℕ → Sector) (row : ℕ) → IsPlacedAs old new → AreRolesKept m plan old.disks new.disks
    → RowStands (reading_of m) c old list row → RowStands (reading_of plan) c new list row
row-alike m plan c old new list row alike kept stands = record {
  whole = λ x at. stands.whole x (ap (λ (p : Place). p.row) (sym (alike.places x)) ∙ at);
  sectors = λ role slot lt part held. full role slot lt held;
  parity = λ role slot lt part held. full role slot lt held;
}
  where
    full : (role slot : ℕ) → role < new.disks → held_slot (reading_of plan) role row ≡ Some slot → c slot (data_offset_of (reading_of plan) slot + row) ≡ full_sector new list row role
    full role slot lt held =
        let k = kept role row slot lt held in
        ap (λ (n : ℕ). c slot (n + row)) k.offset ∙ of (is_parity (row_roles old row) role) refl k ∙ sym (alike.full list row role stands.whole k.within lt)
      where
        of : (b : Bool) → is_parity (row_roles old row) role ≡ b → IsKeptSlot m plan old.disks role row slot → c slot (data_offset_of (reading_of m) slot + row) ≡ full_sector old list row role
        of true is k = stands.parity role slot k.within is k.held
        of false is k = stands.sectors role slot k.within is k.held

pub same-placed : (old new : Shape) → new ≡ old → IsPlacedAs old new
same-placed old new same = subst (λ (s : Shape). IsPlacedAs old s) (sym same) (record { places = λ x. refl; full = λ list row role whole a b. refl })

module _ (scope : Scope) (given : Given) (m plan : Members) (placed : ArePlaced scope given plan) (alike : ArePlacesAlike m plan) where
  pub row-is : (x : ℕ) → x < list_length plan.newest → (place_by plan.newest x).row ≡ (place_by m.newest x).row
  row-is x lt = ap (λ (p : Place). p.row) ((alike.shapes x lt).places x)

  -- the holder of a sector held it
  pub holder-kept : (x slot : ℕ) → x < list_length plan.newest → held_slot (reading_of plan) (place_by plan.newest x).role (place_by plan.newest x).row ≡ Some slot
      → IsKeptSlot m plan (shape_for m.newest x).disks (place_by plan.newest x).role (place_by plan.newest x).row slot
  holder-kept x slot lt held = alike.kept x lt (place_by plan.newest x).role (place_by plan.newest x).row slot (role-in-shape plan.newest placed.fit x) held

  pub held-before : (x slot : ℕ) → x < list_length plan.newest → held_slot (reading_of plan) (place_by plan.newest x).role (place_by plan.newest x).row ≡ Some slot
      → held_slot (reading_of m) (place_by m.newest x).role (place_by m.newest x).row ≡ Some slot
  held-before x slot lt held = subst (λ (p : Place). held_slot (reading_of m) p.role p.row ≡ Some slot) ((alike.shapes x lt).places x) (holder-kept x slot lt held).held

  pub sector-is : (x slot : ℕ) → (lt : x < list_length plan.newest) → held_slot (reading_of plan) (place_by plan.newest x).role (place_by plan.newest x).row ≡ Some slot
      → data_offset_of (reading_of plan) slot + (place_by plan.newest x).row ≡ data_offset_of (reading_of m) slot + (place_by m.newest x).row
  sector-is x slot lt held = ap₂ (λ (a b : ℕ). a + b) (holder-kept x slot lt held).offset (row-is x lt)

  pub row-stands : (c : Contents) (list : ℕ → Sector) (x : ℕ) → x < list_length plan.newest → RowStands (reading_of m) c (shape_for m.newest x) list (place_by m.newest x).row
      → RowStands (reading_of plan) c (shape_for plan.newest x) list (place_by plan.newest x).row
  row-stands c list x lt stands = subst (RowStands (reading_of plan) c (shape_for plan.newest x) list) (sym (row-is x lt))
      (row-alike m plan c (shape_for m.newest x) (shape_for plan.newest x) list (place_by m.newest x).row (alike.shapes x lt) (alike.kept x lt) stands)

  below-too : (x : ℕ) → x < list_length plan.newest → x < list_length m.newest
  below-too x lt = let w = alike.within in omega (arith, lt, w)

  pub alike-stand : (c : Contents) (list : ℕ → Sector) → ListStands None m c list → ListStands None plan c list
  alike-stand c list stands x slot shown held = ap (c slot) (sector-is x slot shown.within held) ∙ stands x slot (record { within = below-too x shown.within; outside = refl }) (held-before x slot shown.within held)

pub places-alike-stand : PlacesAlikeStand
places-alike-stand scope given m plan c list placed alike = (
  alike-stand scope given m plan placed alike c list,
  λ stands x shown. row-stands scope given m plan placed alike c list x shown.within
      (stands x (record { within = (let w = alike.within in let lt = shown.within in omega (arith, lt, w)); outside = refl })),
)

-- ---- what is told

pub resized-tells : ResizedTells
resized-tells n x values lt = (
  λ v is. subst (λ (b : Bool). IsIn (resized b values) v) (sym (less x n lt)) (of v values is),
  λ none. ap (λ (b : Bool). resized b values) (less x n lt) ∙ ap (resized true) none,
)
  where
    less : (a b : ℕ) → a < b → nat_lt a b ≡ true
    less a b h = grind (arith, nat_tests, h)

    of : (v : Sector) (values : List Sector) → IsIn values v → IsIn (resized true values) v
    of v [] is = absurd is
    of v (now ∷ values) is = is

-- ---- the plan is right

-- with no section active each sector of the list is outside
pub outside-none : (scope : Scope) (m : Members) (d : Disk) → HasNoSection scope m d → (header : Sector) → IsIn (d (backup_of scope) 0) header → (x : ℕ) → x < list_length m.newest → IsOutside scope m header x
outside-none scope m d none header may x lt = record { within = lt; outside = ap (λ (o : Option Span). covers o x) (none header may) }

pub clean-too : (m plan : Members) → plan.newest.resync_offset ≡ m.newest.resync_offset → is_clean m.newest ≡ is_clean plan.newest
clean-too m plan same = sym (ap (λ (n : ℕ). is_clean (record m.newest { resync_offset = n })) same)

pub alike-plans : (sound : Type 0) → AlikePlansAreRight sound
alike-plans sound scope given before after m plan d has right = record {
  placed = has.placed;
  sized = has.told.sized;
  gone = has.told.gone;
  unclean = λ dirty. has.told.unclean (right.unclean (clean-too m plan has.clean ∙ dirty));
  reshaping = has.told.reshaping;
  held = λ header may x slot outside holds v is. told x v outside.within
      (right.held header may x slot (outside-none scope m d has.former header may x (below x outside.within)) (held-before scope given m plan has.placed has.alike x slot outside.within holds) v
      (subst (λ (k : ℕ). IsIn (d slot k) v) (sector-is scope given m plan has.placed has.alike x slot outside.within holds) is));
  sections = λ header may span active x low high v is. absurd (let none = has.plain header may in cc);
  settled = λ clean few premise. let s = right.settled (clean-too m plan has.clean ∙ clean) (has.without few) premise in record {
    list = s.list;
    allowed = λ x lt. told x (s.list x) lt (s.allowed x (below x lt));
    rows = λ c drawn x outside. row-stands scope given m plan has.placed has.alike c s.list x outside.within
        (s.rows c drawn x (outside-none scope m d has.former (header_in scope c) (drawn (backup_of scope) 0) x (below x outside.within)));
    zeros = λ x tail. absurd (has.tails x tail);
  };
  headers = λ active premise. has.headers active;
  tails = λ premise x slot tail. absurd (has.tails x tail);
}
  where
    below : (x : ℕ) → x < list_length plan.newest → x < list_length m.newest
    below x lt = let w = has.alike.within in omega (arith, lt, w)

    told : (x : ℕ) (v : Sector) → x < list_length plan.newest → IsIn (before.values x) v → IsIn (after.values x) v
    told x v lt is = has.told.values x v (let b = below x lt in let s = right.sized in omega (arith, b, s)) (let s = has.told.sized in omega (arith, lt, s)) is

-- ---- a reshape begins

pub still-plain : (scope : Scope) (m : Members) (d : Disk) → is_reshaping m.newest ≡ false → HasNoSection scope m d
still-plain scope m d still header may = ap (section_for scope (λ s k. header) scope.backup) none ∙ of scope.backup
  where
    none : next_window m.newest ≡ None
    none = ap (λ (b : Bool). cond b (window (shape_of m.newest) (final_shape m.newest) m.newest.size (is_backward m.newest) m.newest.reshape_position) None) still

    of : (backup : Option ℕ) → section_for scope (λ s k. header) backup None ≡ None
    of (Some b) = refl
    of None = refl

pub cleared-plain : ClearedIsPlain
cleared-plain scope m d cleared = (
  λ header may. of header scope.backup (next_window m.newest) refl may,
  λ backup header here may span named. differ (is_header_of scope.uuid header && names_span header span) named (cleared backup header here may span),
)
  where
    differ : {A : Type 0} (b : Bool) → b ≡ true → b ≡ false → A
    differ true one two = absurd (cc)
    differ false one two = absurd (cc)

    chosen : (b : ℕ) (header : Sector) (span : Span) → (is_header_of scope.uuid header && names_span header span) ≡ false → (t : Bool) → (has_slot scope.given b && has_section scope.uuid (scope.sizes.sectors b) (λ k. header) span) ≡ t
        → ◌≡◌ {A = Option Span} (cond t (Some span) None) None
    chosen b header span plain true is = differ (is_header_of scope.uuid header && names_span header span) (and_parts _ _ (and_parts _ _ is).1).0 plain
    chosen b header span plain false is = refl

    of : (header : Sector) (backup : Option ℕ) (w : Option Span) → scope.backup ≡ backup → IsIn (d (backup_of scope) 0) header → section_for scope (λ s k. header) backup w ≡ None
    of header None w is may = refl
    of header (Some b) None is may = refl
    of header (Some b) (Some span) is may =
        let plain = cleared b header is (subst (λ (s : ℕ). IsIn (d s 0) header) (ap (λ (o : Option ℕ). unwrap_or o 0) is) may) span in
        chosen b header span plain (has_slot scope.given b && has_section scope.uuid (scope.sizes.sectors b) (λ k. header) span) refl

-- more are missing where more of them pass
pub fewer-pass : (n : ℕ) (f g : ℕ → Bool) → ((j : ℕ) → j < n → f j ≡ true → g j ≡ true) → count_below n f ≤ count_below n g
unfolding count_below
fewer-pass zero f g implied = omega arith
fewer-pass (suc n) f g implied = of (f n) (g n) refl refl (fewer-pass n f g (λ j lt. implied j (omega (arith, lt))))
  where
    of : (a b : Bool) → f n ≡ a → g n ≡ b → count_below n f ≤ count_below n g → count_below n f + cond a 1 0 ≤ count_below n g + cond b 1 0
    of true true one two r = omega (arith, r)
    of true false one two r = absurd (let both = sym (implied n (omega arith) one) ∙ two in cc)
    of false true one two r = omega (arith, r)
    of false false one two r = omega (arith, r)

pub begun-alike : BegunIsPlacedAlike
begun-alike m plan begun = record {
  within = shorter;
  shapes = λ x lt. same-placed (shape_for m.newest x) (shape_for plan.newest x) (after-is x lt ∙ sym (before-is x));
  kept = λ x lt. subst (λ (s : Shape). AreRolesKept m plan s.disks (shape_for plan.newest x).disks) (sym (before-is x))
      (subst (λ (s : Shape). AreRolesKept m plan (shape_of m.newest).disks s.disks) (sym (after-is x lt)) begun.kept);
}
  where
    before-is : (x : ℕ) → shape_for m.newest x ≡ shape_of m.newest
    before-is x = for-still m.newest begun.still x

    after-is : (x : ℕ) → x < list_length plan.newest → shape_for plan.newest x ≡ shape_of m.newest
    after-is x lt = (ends-place plan.newest x begun.active lt).0 begun.start ∙ begun.shape

    shorter : list_length plan.newest ≤ list_length m.newest
    shorter =
        let whole = list-still m.newest begun.still in
        let le : min (data_disks (shape_of m.newest)) (data_disks (final_shape plan.newest)) * m.newest.size ≤ data_disks (shape_of m.newest) * m.newest.size = mul-le-mul_right m.newest.size (omega arith) in
        let long : list_length plan.newest ≡ min (data_disks (shape_of m.newest)) (data_disks (final_shape plan.newest)) * m.newest.size =
        (λ i. min (data_disks (begun.shape i)) (data_disks (final_shape plan.newest)) * begun.size i) in
        omega (arith, whole, le, long)

-- at its first position it has no tail
pub starts-untailed : (newest : Sb) → AreShapesFit newest → IsAtStart newest → (x : ℕ) → IsTail newest x → ⊥
starts-untailed newest fit starts x tail =
    let some = some-listed newest fit in
    let through = tail.through in
    let start : newest.reshape_position ≡ 0 = starts ∙ ap (λ (b : Bool). cond b (list_length newest) 0) tail.forth in
    absurd (omega (arith, some, through, start))

pub begins : (sound : Type 0) → BeginsAreRight sound
begins sound scope given before after m plan d begun placed told cleared right = alike-plans sound scope given before after m plan d (record {
  alike = begun-alike m plan begun;
  placed = placed;
  told = told;
  clean = begun.clean;
  former = still-plain scope m d begun.still;
  plain = (cleared-plain scope plan d cleared).0;
  without = without;
  headers = λ active. (cleared-plain scope plan d cleared).1;
  tails = λ x tail. starts-untailed plan.newest placed.fit begun.start x tail;
}) right
  where
    -- the old shape stands, and its roles are missed as before
    without : DoWithout plan → DoWithout m
    without few = record { old = old; final = subst (IsTolerated (reading_of m)) (sym (final-still m.newest begun.still)) old }
      where
        old : IsTolerated (reading_of m) (shape_of m.newest)
        old =
            let few' : IsTolerated (reading_of plan) (shape_of m.newest) = subst (IsTolerated (reading_of plan)) begun.shape few.old in
            let le = fewer-pass (shape_of m.newest).disks (is_missing (reading_of m)) (is_missing (reading_of plan)) begun.missing in
            omega (arith, few', le)

pub begins-seen : (sound : Type 0) → BeginsAreSeenRight sound
begins-seen sound scope given before after m plan d e c begun placed told cleared some updating right reads =
    updates-seen sound scope given before after m plan d e c some updating right (begins sound scope given before after m plan d begun placed told cleared right) reads
