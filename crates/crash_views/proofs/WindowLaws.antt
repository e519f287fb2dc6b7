-- A view stays right while the section of its next window is stored and named, and while the window is copied.
use Rattle.std.proofs.Common.{◌≡◌, ◌≢◌, ◌⊎◌, inl, inr, ℕ, ◌+◌, ◌-◌, ◌==◌, ◌&&◌, Bool, true, false, cond, List, Option, Some, None, unwrap_or, refl, sym, ◌∙◌, ap, subst, arith}
use Rattle.std.specs.Prelude.{Contains}
use Rattle.std.proofs.lemmas.Bool.Decides.{nat_tests}
use Rattle.history.specs.raid_types_the_Shape.{Shape}
use Rattle.history.specs.raid_types_the_Span.{Span}
use Rattle.history.specs.raid_types_Sectors.{Sector}
use Rattle.history.specs.raid_types_Shapes.{has_slot}
use Rattle.history.specs.bank_Given.{Given}
use Rattle.history.specs.bank_Tape.{Contents, IsIn, IsDrawn}
use Rattle.history.specs.sb_codec_the_Sb.{Sb}
use Rattle.history.specs.sb_specs_the_Members.{Members}
use Rattle.history.specs.sb_specs_Reading.{Scope, next_window, final_shape, role_state, holder, data_offset_of}
use Rattle.stripe_list.specs.stripe_row_Rows.{reading_of, held_slot}
use Rattle.stripe_list.proofs.stripe_row_Losses.{holder-of}
use Rattle.stripe_list.specs.Full.{RowStands}
use Rattle.history.specs.bank_backup_Section.{has_section}
use Rattle.history.specs.ActiveSection.{section_for}
use Rattle.history.specs.Stands.{shape_for, covers}
use Rattle.crash_views.specs.Regions.{backup_of, header_in, open_by, place_by, ArePlaced}
use Rattle.crash_views.specs.Views.{Disk, Ledger, IsHeaderFit, IsTail, IsOutside, IsSettled, IsViewRight}
use Rattle.crash_views.specs.Windows.{IsSomewhere, IsLess, IsWrittenAt, FewerStayRight, HasNoSection, StoringStaysRight, IsNaming, NamingStaysRight, IsCopyable, IsWindowPlace, CopyingStaysRight, UpdatingStaysRight, PuttingStaysRight, RegionRowsAreOne}
use Rattle.stripe_list.specs.Full.{full_sector}
use Rattle.stripe_list.proofs.FullLaws.{places-are-full}
use Rattle.stripe_region_laws.proofs.RegionLaws.{regions-apart}
use Rattle.history.specs.raid_types_the_Side_TheVariants.{Old, New}
use Rattle.history.specs.raid_layout_Layout.{place}
use Rattle.history.specs.sb_specs_Reading.{is_backward, shape_of}
use Rattle.crash_views.proofs.Alike.{valid-for}
use Rattle.crash_views.proofs.Headers.{backup-is}
use Rattle.crash_views.proofs.Tails.{no-tail, first, listed, same-row, new-there}
use Rattle.crash_views.proofs.UnderWay.{row-apart, row-apart-uncritical, under-way, shape-on, side-or}

-- ---- fewer values

pub fewer-right : (sound : Type 0) → FewerStayRight sound
fewer-right sound scope given told m d e fewer right = record {
  placed = right.placed;
  sized = right.sized;
  gone = right.gone;
  unclean = right.unclean;
  reshaping = right.reshaping;
  held = λ header may x slot outside holds v is. right.held header (fewer (backup_of scope) 0 header may) x slot outside holds v (fewer slot _ v is);
  sections = λ header may span active x low high v is. right.sections header (fewer (backup_of scope) 0 header may) span active x low high v (fewer (backup_of scope) _ v is);
  settled = λ clean few premise. let s = right.settled clean few premise in record {
    list = s.list;
    allowed = s.allowed;
    rows = λ c drawn x outside. s.rows c (λ s k. fewer s k (c s k) (drawn s k)) x outside;
    zeros = s.zeros;
  };
  headers = λ active premise backup header here may. right.headers active premise backup header here (fewer backup 0 header may);
  tails = λ premise x slot tail holds v is. right.tails premise x slot tail holds v (fewer slot _ v is);
}

-- ---- a row that stands in contents that have the same there

pub row-same : (m : Members) (a b : Contents) (shape : Shape) (list : ℕ → Sector) (row : ℕ)
    → ((role slot : ℕ) → held_slot (reading_of m) role row ≡ Some slot → a slot (data_offset_of (reading_of m) slot + row) ≡ b slot (data_offset_of (reading_of m) slot + row))
    → RowStands (reading_of m) a shape list row → RowStands (reading_of m) b shape list row
row-same m a b shape list row same stands = record {
  whole = stands.whole;
  sectors = λ role slot lt part held. sym (same role slot held) ∙ stands.sectors role slot lt part held;
  parity = λ role slot lt part held. sym (same role slot held) ∙ stands.parity role slot lt part held;
}

-- a section is active only where there is a backup
pub open-some : (scope : Scope) (m : Members) (header : Sector) (span : Span) → open_by scope m.newest header ≡ Some span → scope.backup ≡ Some (backup_of scope)
open-some scope m header span active = of scope.backup active
  where
    of : (backup : Option ℕ) → section_for scope (λ s k. header) backup (next_window m.newest) ≡ Some span → backup ≡ Some (unwrap_or backup 0)
    of (Some b) is = refl
    of None is = absurd (cc)

-- its span is the next window's
pub open-window : (scope : Scope) (newest : Sb) (header : Sector) (span : Span) → open_by scope newest header ≡ Some span → next_window newest ≡ Some span
open-window scope newest header span active = of scope.backup (next_window newest) active
  where
    chosen : (t : Bool) (window : Span) → ◌≡◌ {A = Option Span} (cond t (Some window) None) (Some span) → ◌≡◌ {A = Option Span} (Some window) (Some span)
    chosen true window is = is
    chosen false window is = absurd (cc)

    of : (backup : Option ℕ) (window : Option Span) → section_for scope (λ s k. header) backup window ≡ Some span → window ≡ Some span
    of None window is = absurd (cc)
    of (Some b) None is = absurd (cc)
    of (Some b) (Some window) is = chosen (has_slot scope.given b && has_section scope.uuid (scope.sizes.sectors b) (λ k. header) window) window is

-- the rows of a holder lie behind its header
pub at-rows : (scope : Scope) (given : Given) (m : Members) → ArePlaced scope given m → (role slot row k : ℕ) → holder (role_state (reading_of m) role) ≡ Some slot → k ≡ data_offset_of (reading_of m) slot + row → k ≢ 0
at-rows scope given m placed role slot row k held at zero_is = let far = placed.behind role slot held in absurd (omega (arith, far, at, zero_is))

-- ---- places that no view reads are written

-- Contents of after, with what was before where something was written.
module _ (d e : Disk) (some : IsSomewhere d) (P : ℕ → ℕ → Type 0) (written : IsWrittenAt P d e) (c : Contents) where
  abbrev pub pick : (s k : ℕ) → IsLess (d s k) (e s k) ⊎ P s k → Sector
  pick s k (inl less) = c s k
  pick s k (inr there) = (some s k).0

  abbrev pub back : Contents
  back s k = pick s k (written s k)

  pub back-drawn : IsDrawn e c → IsDrawn d back
  back-drawn drawn s k = of (written s k)
    where
      of : (which : IsLess (d s k) (e s k) ⊎ P s k) → IsIn (d s k) (pick s k which)
      of (inl less) = less (c s k) (drawn s k)
      of (inr there) = (some s k).1

  pub back-same : (s k : ℕ) → (P s k → ⊥) → back s k ≡ c s k
  back-same s k none = of (written s k)
    where
      of : (which : IsLess (d s k) (e s k) ⊎ P s k) → pick s k which ≡ c s k
      of (inl less) = refl
      of (inr there) = absurd (none there)

-- what isn't such a place has its values
pub kept-at : (d e : Disk) (P : ℕ → ℕ → Type 0) → IsWrittenAt P d e → (s k : ℕ) → (P s k → ⊥) → IsLess (d s k) (e s k)
kept-at d e P written s k none v may = elim (written s k) [ inl less ↦ less v may | inr there ↦ absurd (none there) ]

-- Nothing is written that a view reads: not the header, not a section, no row of a sector outside one, and nothing in the tail.
pub record IsUnread (scope : Scope) (m : Members) (d : Disk) (P : ℕ → ℕ → Type 0) : Type 0 where
  pub header : P (backup_of scope) 0 → ⊥
  pub section : (header : Sector) → IsIn (d (backup_of scope) 0) header → (span : Span) → open_by scope m.newest header ≡ Some span → (k : ℕ) → P (backup_of scope) (8 + k) → ⊥
  pub rows : (header : Sector) → IsIn (d (backup_of scope) 0) header → (x role slot : ℕ) → IsOutside scope m header x → held_slot (reading_of m) role (place_by m.newest x).row ≡ Some slot
      → P slot (data_offset_of (reading_of m) slot + (place_by m.newest x).row) → ⊥
  pub tails : (x slot : ℕ) → IsTail m.newest x → held_slot (reading_of m) (place (final_shape m.newest) x).role (place (final_shape m.newest) x).row ≡ Some slot
      → P slot (data_offset_of (reading_of m) slot + (place (final_shape m.newest) x).row) → ⊥

-- what isn't such a place has fewer values, so that the header is one of before
pub unread-header : (scope : Scope) (m : Members) (d e : Disk) (P : ℕ → ℕ → Type 0) → IsWrittenAt P d e → IsUnread scope m d P → (header : Sector) → IsIn (e (backup_of scope) 0) header → IsIn (d (backup_of scope) 0) header
unread-header scope m d e P written unread header may = kept-at d e P written (backup_of scope) 0 unread.header header may

-- what is settled stays so, by the same list
unfoldable pub unread-settled : (scope : Scope) (m : Members) (values : ℕ → List Sector) (d e : Disk) (P : ℕ → ℕ → Type 0) → IsSomewhere d → IsWrittenAt P d e → IsUnread scope m d P
    → IsSettled scope m values d → IsSettled scope m values e
unread-settled scope m values d e P some written unread s = record {
  list = s.list;
  allowed = s.allowed;
  rows = λ c drawn x outside. (
      let header-same : header_in scope (back d e some P written c) ≡ header_in scope c = back-same d e some P written c (backup_of scope) 0 unread.header in
      let was : IsOutside scope m (header_in scope (back d e some P written c)) x = subst (λ (h : Sector). IsOutside scope m h x) (sym header-same) outside in
      row-same m (back d e some P written c) c (shape_for m.newest x) s.list (place_by m.newest x).row
      (λ role slot held. back-same d e some P written c slot (data_offset_of (reading_of m) slot + (place_by m.newest x).row)
      (unread.rows (header_in scope (back d e some P written c)) (back-drawn d e some P written c drawn (backup_of scope) 0) x role slot was held))
      (s.rows (back d e some P written c) (back-drawn d e some P written c drawn) x was));
  zeros = s.zeros;
}

pub unread-right : (sound : Type 0) (scope : Scope) (given : Given) (told : Ledger) (m : Members) (d e : Disk) (P : ℕ → ℕ → Type 0) → IsSomewhere d → IsWrittenAt P d e
    → IsUnread scope m d P → IsViewRight sound scope given told m d → IsViewRight sound scope given told m e
unread-right sound scope given told m d e P some written unread right = record {
  placed = right.placed;
  sized = right.sized;
  gone = right.gone;
  unclean = right.unclean;
  reshaping = right.reshaping;
  held = λ header may x slot outside holds v is. (
      let here = unread-header scope m d e P written unread header may in
      right.held header here x slot outside holds v
      (kept-at d e P written slot (data_offset_of (reading_of m) slot + (place_by m.newest x).row)
      (unread.rows header here x (place_by m.newest x).role slot outside holds) v is));
  sections = λ header may span active x low high v is. (
      let here = unread-header scope m d e P written unread header may in
      right.sections header here span active x low high v
      (kept-at d e P written (backup_of scope) (8 + (x - span.lo)) (unread.section header here span active (x - span.lo)) v is));
  settled = λ clean few premise. unread-settled scope m told.values d e P some written unread (right.settled clean few premise);
  headers = λ active premise backup header here may. right.headers active premise backup header here
      (kept-at d e P written backup 0 (λ p. unread.header (subst (λ (s : ℕ). P s 0) (sym (backup-is scope backup here)) p)) header may);
  tails = λ premise x slot tail holds v is. right.tails premise x slot tail holds v
      (kept-at d e P written slot (data_offset_of (reading_of m) slot + (place (final_shape m.newest) x).row) (unread.tails x slot tail holds) v is);
}

-- ---- the section is stored

pub storing-unread : (scope : Scope) (given : Given) (m : Members) (d : Disk) → ArePlaced scope given m → HasNoSection scope m d → IsUnread scope m d (λ s k. (scope.backup ≡ Some s) × (k ≢ 0))
storing-unread scope given m d placed none = record {
  header = λ (same, other). other refl;
  section = λ header may span active k (same, other). absurd (let plain = none header may in cc);
  rows = λ header may x role slot outside held (is, other). placed.members_own role slot (holder-of (reading_of m) role (place_by m.newest x).row slot held) is;
  tails = λ x slot tail held (is, other). placed.members_own (place (final_shape m.newest) x).role slot (holder-of (reading_of m) (place (final_shape m.newest) x).role (place (final_shape m.newest) x).row slot held) is;
}

pub storing-right : (sound : Type 0) → StoringStaysRight sound
storing-right sound scope given told m d e some none storing right =
    unread-right sound scope given told m d e (λ s k. (scope.backup ≡ Some s) × (k ≢ 0)) some storing (storing-unread scope given m d right.placed none) right

-- ---- the window is copied

pub copying-unread : (scope : Scope) (given : Given) (m : Members) (span : Span) (d : Disk) → ArePlaced scope given m → IsCopyable scope m span d → IsUnread scope m d (IsWindowPlace m span)
copying-unread scope given m span d placed able = record {
  header = λ there. at-rows scope given m placed there.role (backup_of scope) there.row 0 there.held there.place refl;
  section = λ header may other active k there. placed.members_own there.role (backup_of scope) there.held (open-some scope m header other active);
  rows = λ header may x role slot outside held there. (
      let same : (place_by m.newest x).row ≡ there.row = (let e = there.place in omega (arith, e)) in
      elim able.kept [
        | inl active ↦ row-apart m.newest placed.fit span able.next there.row there.written x outside.within
            (sym (ap (λ (o : Option Span). covers o x) (active header may)) ∙ outside.outside) same
        | inr plain ↦ row-apart-uncritical m.newest placed.fit span able.next there.row there.written plain x outside.within same
      ]);
  tails = λ x slot tail held there. no-tail m.newest span x able.next tail;
}

pub copying-right : (sound : Type 0) → CopyingStaysRight sound
copying-right sound scope given told m span d e some able copying right =
    unread-right sound scope given told m d e (IsWindowPlace m span) some copying (copying-unread scope given m span d right.placed able) right

-- ---- the section is named

-- a row that stood before the header was named stands
pub naming-rows : (scope : Scope) (given : Given) (m : Members) (values : ℕ → List Sector) (header plain : Sector) (d e : Disk) → ArePlaced scope given m
    → IsIn (d (backup_of scope) 0) plain → open_by scope m.newest plain ≡ None → IsNaming scope header d e → (s : IsSettled scope m values d)
    → (c : Contents) → IsDrawn e c → (x : ℕ) → IsOutside scope m (header_in scope c) x → RowStands (reading_of m) c (shape_for m.newest x) s.list (place_by m.newest x).row
naming-rows scope given m values header plain d e placed there none naming s c drawn x outside =
    row-same m (before c) c (shape_for m.newest x) s.list (place_by m.newest x).row
    (λ role slot held. other c slot (data_offset_of (reading_of m) slot + (place_by m.newest x).row)
    (at-rows scope given m placed role slot (place_by m.newest x).row (data_offset_of (reading_of m) slot + (place_by m.newest x).row) (holder-of (reading_of m) role (place_by m.newest x).row slot held) refl))
    (s.rows (before c) (drawn-before c drawn) x (record {
      within = outside.within;
      outside = ap (λ (o : Option Span). covers o x) (ap (open_by scope m.newest) (plain-there c) ∙ none);
    }))
  where
    -- with the plain header in place of the one that stands there
    before : Contents → Contents
    before c s k = cond (s == backup_of scope) (cond (k == 0) plain (c s k)) (c s k)

    other : (c : Contents) (s k : ℕ) → k ≢ 0 → before c s k ≡ c s k
    other c s k apart = of (s == backup_of scope) (k == 0) (not-it k 0 apart)
      where
        not-it : (a b : ℕ) → a ≢ b → (a == b) ≡ false
        not-it a b ne = grind (arith, nat_tests, ne)

        of : (a b : Bool) → b ≡ false → cond a (cond b plain (c s k)) (c s k) ≡ c s k
        of true true e = absurd (cc)
        of true false e = refl
        of false b e = refl

    plain-there : (c : Contents) → header_in scope (before c) ≡ plain
    plain-there c = ap (λ (b : Bool). cond b plain (c (backup_of scope) 0)) (same (backup_of scope))
      where
        same : (a : ℕ) → (a == a) ≡ true
        same a = grind (arith, nat_tests)

    drawn-before : (c : Contents) → IsDrawn e c → IsDrawn d (before c)
    drawn-before c drawn s k = of (s == backup_of scope) (k == 0) refl refl
      where
        eq : (a b : ℕ) → (a == b) ≡ true → a ≡ b
        eq a b is = grind (arith, nat_tests, is)

        ne : (a b : ℕ) → (a == b) ≡ false → a ≢ b
        ne a b is = grind (arith, nat_tests, is)

        of : (a b : Bool) → (s == backup_of scope) ≡ a → (k == 0) ≡ b → IsIn (d s k) (cond a (cond b plain (c s k)) (c s k))
        of true true one two = subst (λ (n : ℕ). IsIn (d n k) plain) (sym (eq s (backup_of scope) one)) (subst (λ (n : ℕ). IsIn (d (backup_of scope) n) plain) (sym (eq k 0 two)) there)
        of true false one two = subst (λ (l : List Sector). IsIn l (c s k)) (naming.others s k (inr (ne k 0 two))) (drawn s k)
        of false b one two = subst (λ (l : List Sector). IsIn l (c s k)) (naming.others s k (inl (ne s (backup_of scope) one))) (drawn s k)

unfoldable pub naming-settled : (scope : Scope) (given : Given) (m : Members) (values : ℕ → List Sector) (header plain : Sector) (d e : Disk) → ArePlaced scope given m
    → IsIn (d (backup_of scope) 0) plain → open_by scope m.newest plain ≡ None → IsNaming scope header d e → IsSettled scope m values d → IsSettled scope m values e
naming-settled scope given m values header plain d e placed there none naming s = record {
  list = s.list;
  allowed = s.allowed;
  rows = λ c drawn x outside. naming-rows scope given m values header plain d e placed there none naming s c drawn x outside;
  zeros = s.zeros;
}

pub naming-right : (sound : Type 0) → NamingStaysRight sound
naming-right sound scope given told m header plain d e some there none allowed fits naming right = record {
  placed = right.placed;
  sized = right.sized;
  gone = right.gone;
  unclean = right.unclean;
  reshaping = right.reshaping;
  held = λ named may x slot outside holds v is. right.held plain there x slot (record { within = outside.within; outside = ap (λ (o : Option Span). covers o x) none }) holds v
      (subst (λ (l : List Sector). IsIn l v) (naming.others slot (data_offset_of (reading_of m) slot + (place_by m.newest x).row)
      (inr (at-rows scope given m right.placed (place_by m.newest x).role slot (place_by m.newest x).row (data_offset_of (reading_of m) slot + (place_by m.newest x).row) (holder-of (reading_of m) (place_by m.newest x).role (place_by m.newest x).row slot holds) refl))) is);
  sections = λ named may span active x low high v is. (
      let is' : IsIn (d (backup_of scope) (8 + (x - span.lo))) v = subst (λ (l : List Sector). IsIn l v) (naming.others (backup_of scope) (8 + (x - span.lo)) (inr (λ z. absurd (omega (arith, z))))) is in
      elim (naming.header_is named may) [
        | inl before ↦ right.sections named before span active x low high v is'
        | inr new ↦ allowed span (sym (ap (open_by scope m.newest) new) ∙ active) x low high v is'
      ]);
  settled = λ clean few premise. naming-settled scope given m told.values header plain d e right.placed there none naming (right.settled clean few premise);
  headers = λ active premise backup named here may. elim (naming.header_is named (subst (λ (s : ℕ). IsIn (e s 0) named) (sym (backup-is scope backup here)) may)) [
    | inl before ↦ right.headers active premise backup named here (subst (λ (s : ℕ). IsIn (d s 0) named) (backup-is scope backup here) before)
    | inr new ↦ subst (IsHeaderFit scope m.newest) (sym new) (fits active premise)
  ];
  tails = λ premise x slot tail holds v is. right.tails premise x slot tail holds v
      (subst (λ (l : List Sector). IsIn l v) (naming.others slot (data_offset_of (reading_of m) slot + (place (final_shape m.newest) x).row)
      (inr (at-rows scope given m right.placed (place (final_shape m.newest) x).role slot (place (final_shape m.newest) x).row (data_offset_of (reading_of m) slot + (place (final_shape m.newest) x).row)
      (holder-of (reading_of m) (place (final_shape m.newest) x).role (place (final_shape m.newest) x).row slot holds) refl))) is);
}

-- ---- superblocks are written

pub updating-unread : (scope : Scope) (given : Given) (m : Members) (d : Disk) → ArePlaced scope given m → IsUnread scope m d (λ s k. (k ≡ 8) × (scope.backup ≡ Some s → ⊥))
updating-unread scope given m d placed = record {
  header = λ (eighth, other). absurd (omega (arith, eighth));
  section = λ header may span active k (eighth, other). other (open-some scope m header span active);
  rows = λ header may x role slot outside held (eighth, other). (let far = placed.behind role slot (holder-of (reading_of m) role (place_by m.newest x).row slot held) in absurd (omega (arith, far, eighth)));
  tails = λ x slot tail held (eighth, other). (
      let far = placed.behind (place (final_shape m.newest) x).role slot (holder-of (reading_of m) (place (final_shape m.newest) x).role (place (final_shape m.newest) x).row slot held) in
      absurd (omega (arith, far, eighth)));
}

pub updating-right : (sound : Type 0) → UpdatingStaysRight sound
updating-right sound scope given told m d e some updating right =
    unread-right sound scope given told m d e (λ s k. (k ≡ 8) × (scope.backup ≡ Some s → ⊥)) some updating (updating-unread scope given m d right.placed) right

-- ---- rows of one region are written

pub region-rows : RegionRowsAreOne
region-rows scope given m x y placed active x-in y-in same =
    let back = is_backward m.newest in
    let position = m.newest.reshape_position in
    elim (side-or (is_backward m.newest) m.newest.reshape_position x) [
      | inl old ↦ elim (side-or (is_backward m.newest) m.newest.reshape_position y) [
        | inl older ↦ shape-on m.newest active x Old old ∙ sym (shape-on m.newest active y Old older)
        | inr new ↦ absurd (regions-apart (shape_of m.newest) (final_shape m.newest) m.newest.size (is_backward m.newest) m.newest.reshape_position y x (under-way m.newest placed.fit active) y-in x-in new old
            (sym (ap (λ (s : Shape). (place s y).row) (shape-on m.newest active y New new)) ∙ sym same ∙ ap (λ (s : Shape). (place s x).row) (shape-on m.newest active x Old old)))
      ]
      | inr new ↦ elim (side-or (is_backward m.newest) m.newest.reshape_position y) [
        | inl old ↦ absurd (regions-apart (shape_of m.newest) (final_shape m.newest) m.newest.size (is_backward m.newest) m.newest.reshape_position x y (under-way m.newest placed.fit active) x-in y-in new old
            (sym (ap (λ (s : Shape). (place s x).row) (shape-on m.newest active x New new)) ∙ same ∙ ap (λ (s : Shape). (place s y).row) (shape-on m.newest active y Old old)))
        | inr newer ↦ shape-on m.newest active x New new ∙ sym (shape-on m.newest active y New newer)
      ]
    ]

pub putting-right : (sound : Type 0) → PuttingStaysRight sound
putting-right sound scope given told m shape list written d e dirty region allowed zeros putting right = record {
  placed = right.placed;
  sized = right.sized;
  gone = right.gone;
  unclean = right.unclean;
  reshaping = right.reshaping;
  held = λ header may x slot outside holds v is. elim (putting slot (data_offset_of (reading_of m) slot + (place_by m.newest x).row)) [
    | inl same ↦ right.held header (before header may) x slot outside holds v (subst (λ (l : List Sector). IsIn l v) same is)
    | inr put ↦ elim (put.values v is) [
      | inl was ↦ right.held header (before header may) x slot outside holds v was
      | inr new ↦ (
          let row-is : put.row ≡ (place_by m.newest x).row = (let e = put.place in omega (arith, e)) in
          let role-is : put.role ≡ (place_by m.newest x).role = right.placed.apart put.role (place_by m.newest x).role slot put.held (holder-of (reading_of m) (place_by m.newest x).role (place_by m.newest x).row slot holds) in
          let shape-is : shape_for m.newest x ≡ shape = region x outside.within (subst (Contains written) row-is put.among) in
          subst (λ (w : Sector). IsIn (told.values x) w)
          (sym (new ∙ (λ i. full_sector (sym shape-is i) list (row-is i) (role-is i)) ∙ places-are-full (shape_for m.newest x) list x (valid-for m.newest right.placed.fit x)))
          (allowed x outside.within))
    ]
  ];
  sections = λ header may span active x low high v is. right.sections header (before header may) span active x low high v (subst (λ (l : List Sector). IsIn l v) (unwritten header span active (8 + (x - span.lo))) is);
  settled = λ clean few premise. absurd (cc);
  headers = λ active premise backup header here may. right.headers active premise backup header here
      (subst (λ (s : ℕ). IsIn (d s 0) header) (backup-is scope backup here) (before header (subst (λ (s : ℕ). IsIn (e s 0) header) (sym (backup-is scope backup here)) may)));
  tails = λ premise x slot tail holds v is. elim (putting slot (data_offset_of (reading_of m) slot + (place (final_shape m.newest) x).row)) [
    | inl same ↦ right.tails premise x slot tail holds v (subst (λ (l : List Sector). IsIn l v) same is)
    | inr put ↦ elim (put.values v is) [
      | inl was ↦ right.tails premise x slot tail holds v was
      | inr new ↦ (
          let row-is : put.row ≡ (place (final_shape m.newest) x).row = (let e = put.place in omega (arith, e)) in
          let role-is : put.role ≡ (place (final_shape m.newest) x).role = right.placed.apart put.role (place (final_shape m.newest) x).role slot put.held
          (holder-of (reading_of m) (place (final_shape m.newest) x).role (place (final_shape m.newest) x).row slot holds) in
          let there = new-there m.newest right.placed.fit x tail in
          let first-row : (place_by m.newest (first m.newest right.placed.fit x tail)).row ≡ (place (final_shape m.newest) x).row =
          ap (λ (s : Shape). (place s (first m.newest right.placed.fit x tail)).row) there ∙ same-row m.newest right.placed.fit x tail in
          let shape-is : final_shape m.newest ≡ shape =
          sym there ∙ region (first m.newest right.placed.fit x tail) (listed m.newest right.placed.fit x tail) (subst (Contains written) (row-is ∙ sym first-row) put.among) in
          new ∙ (λ i. full_sector (sym shape-is i) list (row-is i) (role-is i)) ∙ places-are-full (final_shape m.newest) list x right.placed.fit.valid.final ∙ zeros premise x tail)
    ]
  ];
}
  where
    unwritten : (header : Sector) (span : Span) → open_by scope m.newest header ≡ Some span → (k : ℕ) → e (backup_of scope) k ≡ d (backup_of scope) k
    unwritten header span active k = elim (putting (backup_of scope) k) [
      | inl same ↦ same
      | inr put ↦ absurd (right.placed.members_own put.role (backup_of scope) put.held (open-some scope m header span active))
    ]

    same-header : e (backup_of scope) 0 ≡ d (backup_of scope) 0
    same-header = elim (putting (backup_of scope) 0) [
      | inl same ↦ same
      | inr put ↦ absurd (at-rows scope given m right.placed put.role (backup_of scope) put.row 0 put.held put.place refl)
    ]

    before : (header : Sector) → IsIn (e (backup_of scope) 0) header → IsIn (d (backup_of scope) 0) header
    before header may = subst (λ (l : List Sector). IsIn l header) same-header may
