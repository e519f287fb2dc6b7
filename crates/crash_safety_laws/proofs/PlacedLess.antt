-- A view that places the list where another does is as right.
use Rattle.std.proofs.Common.{◌≡◌, ℕ, ◌+◌, ◌<◌, Option, Some, sym, ◌∙◌, ap, ap₂, subst, arith}
use Rattle.crash_views.specs.raid_types_the_Shape.{Shape}
use Rattle.crash_views.specs.raid_types_the_Span.{Span}
use Rattle.crash_views.specs.raid_types_Sectors.{Sector}
use Rattle.crash_views.specs.bank_Tape.{Contents, IsIn}
use Rattle.crash_views.specs.raid_layout_Layout.{place}
use Rattle.crash_views.proofs.raid_layout_Places.{place-role_below}
use Rattle.crash_views.specs.sb_specs_the_Members.{Members}
use Rattle.crash_views.specs.sb_specs_Reading.{Scope, final_shape, list_length}
use Rattle.crash_views.specs.stripe_row_Rows.{reading_of, held_slot}
use Rattle.crash_views.specs.stripe_list_Full.{RowStands}
use Rattle.crash_views.specs.history_Stands.{shape_for, covers}
use Rattle.crash_views.specs.Regions.{backup_of, header_in, place_by}
use Rattle.crash_views.specs.Views.{Disk, IsOutside}
use Rattle.crash_safety_laws.specs.Giving.{IsPlacedLess, PlacedLessIsRight}
use Rattle.crash_views.proofs.Alike.{role-in-shape}
use Rattle.crash_views.proofs.Tails.{first, listed, new-there}

module _ (scope : Scope) (m view : Members) (d : Disk) (less : IsPlacedLess scope m view d) where
  outside-less : (header : Sector) → IsIn (d (backup_of scope) 0) header → (x : ℕ) → IsOutside scope view header x → IsOutside scope m header x
  outside-less header may x out = record {
    within = (let below = out.within in let w = less.within in omega (arith, below, w));
    outside = ap (λ (o : Option Span). covers o x) (sym (less.opened header may)) ∙ out.outside;
  }

  row-less : (c : Contents) (list : ℕ → Sector) (x row : ℕ) → x < list_length view.newest → RowStands (reading_of m) c (shape_for view.newest x) list row → RowStands (reading_of view) c (shape_for view.newest x) list row
  row-less c list x row below stands = record {
    whole = stands.whole;
    sectors = λ role slot lt part held. ap (λ (n : ℕ). c slot (n + row)) (less.offsets x role row slot below lt held) ∙ stands.sectors role slot lt part (less.held x role row slot below lt held);
    parity = λ role slot lt part held. ap (λ (n : ℕ). c slot (n + row)) (less.offsets x role row slot below lt held) ∙ stands.parity role slot lt part (less.held x role row slot below lt held);
  }

pub placed-less-right : (sound : Type 0) → PlacedLessIsRight sound
placed-less-right sound scope given told more m view d less placed gone tells right = record {
  placed = placed;
  sized = tells.sized;
  gone = gone;
  unclean = λ dirty. tells.unclean (right.unclean (sym less.clean ∙ dirty));
  reshaping = tells.reshaping;
  held = λ header may x slot outside holds v is. (
      let below = outside.within in
      let same = less.shapes x below in
      let role = role-in-shape view.newest placed.fit x in
      let holds' : held_slot (reading_of m) (place_by m.newest x).role (place_by m.newest x).row ≡ Some slot =
      subst (λ (s : Shape). held_slot (reading_of m) (place s x).role (place s x).row ≡ Some slot) same (less.held x (place_by view.newest x).role (place_by view.newest x).row slot below role holds) in
      tells.values x below v (right.held header may x slot (outside-less scope m view d less header may x outside) holds' v
      (subst (λ (n : ℕ). IsIn (d slot n) v)
      (ap₂ (λ (a b : ℕ). a + b) (less.offsets x (place_by view.newest x).role (place_by view.newest x).row slot below role holds) (ap (λ (s : Shape). (place s x).row) same)) is)));
  sections = λ header may span active x low high v is. tells.sections header may span active x low high v (right.sections header may span (sym (less.opened header may) ∙ active) x low high v is);
  settled = λ clean few premise. (
      let s = right.settled (sym less.clean ∙ clean) (less.does few) premise in
      record {
        list = s.list;
        allowed = λ x lt. tells.values x lt (s.list x) (s.allowed x (let w = less.within in omega (arith, lt, w)));
        rows = λ c drawn x outside. row-less scope m view d less c s.list x (place_by view.newest x).row outside.within
            (subst (λ (t : Shape). RowStands (reading_of m) c t s.list (place t x).row) (sym (less.shapes x outside.within))
            (s.rows c drawn x (outside-less scope m view d less (header_in scope c) (drawn (backup_of scope) 0) x outside)));
        zeros = λ x tail. s.zeros x (less.tails x tail).0;
      });
  headers = λ active premise. less.headers active (λ on. right.headers on premise);
  tails = λ premise x slot tail holds v is. (
      let was = less.tails x tail in
      let inside = listed view.newest placed.fit x tail in
      let role : (place (final_shape view.newest) x).role < (shape_for view.newest (first view.newest placed.fit x tail)).disks =
      subst (λ (s : Shape). (place (final_shape view.newest) x).role < s.disks) (sym (new-there view.newest placed.fit x tail)) (place-role_below (final_shape view.newest) placed.fit.valid.final x) in
      right.tails premise x slot was.0
      (subst (λ (s : Shape). held_slot (reading_of m) (place s x).role (place s x).row ≡ Some slot) was.1
      (less.held (first view.newest placed.fit x tail) (place (final_shape view.newest) x).role (place (final_shape view.newest) x).row slot inside role holds)) v
      (subst (λ (n : ℕ). IsIn (d slot n) v)
      (ap₂ (λ (a b : ℕ). a + b) (less.offsets (first view.newest placed.fit x tail) (place (final_shape view.newest) x).role (place (final_shape view.newest) x).row slot inside role holds)
      (ap (λ (s : Shape). (place s x).row) was.1)) is));
}
