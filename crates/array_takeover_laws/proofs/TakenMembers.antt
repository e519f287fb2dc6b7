-- The members behind a takeover, from those that its update plans: the list stands on them as before, and is as long.
use Rattle.std.proofs.Common.{◌≡◌, ◌⊎◌, inl, inr, ℕ, ◌*◌, false, sym, ◌∙◌, ap, refl, arith, None}
use Rattle.std.specs.Prelude.{IsTrue}
use Rattle.array_reshaping_end_laws.specs.raid_types_Sectors.{Sector}
use Rattle.array_reshaping_end_laws.specs.raid_types_Shapes.{data_disks, is_valid_shape}
use Rattle.array_reshaping_end_laws.specs.raid_types_the_Shape.{Shape}
use Rattle.array_reshaping_end_laws.specs.bank_Given.{Given}
use Rattle.array_reshaping_end_laws.specs.bank_Tape.{Contents}
use Rattle.array_reshaping_end_laws.specs.reshape_plan_Plans.{taken_up}
use Rattle.array_reshaping_end_laws.specs.sb_specs_the_Members.{Members}
use Rattle.array_reshaping_end_laws.specs.sb_specs_Reading.{Scope, is_reshaping, shape_of, list_length}
use Rattle.array_reshaping_end_laws.specs.crash_views_Regions.{ArePlaced}
use Rattle.array_reshaping_end_laws.specs.crash_views_Windows.{ListStands, RowsStand}
use Rattle.array_reshaping_end_laws.proofs.crash_views_Stands.{list-still}
use Rattle.array_reshaping_end_laws.specs.crash_safety_laws_Marking.{AreOthersPresent}
use Rattle.array_reshaping_end_laws.specs.crash_safety_laws_Steady.{AreUnlost}
use Rattle.array_reshaping_end_laws.specs.crash_reshape_laws_Ends.{ArePlacesAlike}
use Rattle.array_reshaping_end_laws.specs.crash_reshape_laws_Takeovers.{IsTakenUp, IsTakenDown}
use Rattle.array_reshaping_end_laws.proofs.crash_reshape_laws_EndLaws.{places-alike-stand}
use Rattle.array_reshaping_end_laws.proofs.crash_reshape_laws_TakenShapes.{taken-over}
use Rattle.array_reshaping_end_laws.proofs.crash_reshape_laws_Takeovers.{place-alike}
use Rattle.array_reshaping_end_laws.proofs.sb_safe_updates_Under.{shown-moved, shown-rows-moved}
use Rattle.array_reshaping_end_laws.specs.array_members_Moving.{IsMoved}
use Rattle.array_reshaping_end_laws.specs.array_members_Placed.{IsPlaced}
use Rattle.array_reshaping_end_laws.proofs.array_members_HeldRows.{held-moved, missing-moved}
use Rattle.array_reshaping_end_laws.proofs.array_members_MovedLaws.{moved-same}
use Rattle.array_reshaping_end_laws.proofs.EndedRows.{alone_of, alone-placed}

-- it goes one way or the other
abbrev pub IsTaken : Members → Members → Type 0
IsTaken old new = IsTakenUp old new ⊎ IsTakenDown old new

pub still-before : (old new : Members) → IsTaken old new → is_reshaping old.newest ≡ false
still-before old new (inl up) = up.still
still-before old new (inr down) = down.still

pub still-then : (old new : Members) → IsTaken old new → is_reshaping new.newest ≡ false
still-then old new (inl up) = up.still_too
still-then old new (inr down) = down.still_too

-- what the plan takes over the members have that it leaves
pub taken-then : (given : Given) (old plan new : Members) → IsTaken old plan → IsMoved given plan new → new.newest.resync_offset ≡ old.newest.resync_offset → IsTaken old new
taken-then given old plan new (inl up) moved clean = inl (record {
  still = up.still;
  still_too = moved.reshape.reshaping ∙ up.still_too;
  five = up.five;
  shape = moved.shape ∙ up.shape;
  size = moved.size ∙ up.size;
  clean = clean;
  kept = λ role row slot lt held. let k = up.kept role row slot lt (held-moved moved role row slot held) in record { within = k.within; held = k.held; offset = moved.offsets slot ∙ k.offset };
  missing = λ role lt miss. missing-moved moved role (up.missing role lt miss);
  last = missing-moved moved (shape_of old.newest).disks up.last;
})
taken-then given old plan new (inr down) moved clean = inr (record {
  still = down.still;
  still_too = moved.reshape.reshaping ∙ down.still_too;
  five = ap (λ (s : Shape). s.level) moved.shape ∙ down.five;
  shape = down.shape ∙ ap taken_up (sym moved.shape);
  size = moved.size ∙ down.size;
  clean = clean;
  kept = λ role row slot lt held.
      let same = ap (λ (s : Shape). s.disks) moved.shape in
      let k = down.kept role row slot (omega (arith, lt, same)) (held-moved moved role row slot held) in
      record { within = (let w = k.within in omega (arith, w, same)); held = k.held; offset = moved.offsets slot ∙ k.offset };
  missing = λ role lt miss. (let same = ap (λ (s : Shape). s.disks) moved.shape in missing-moved moved role (down.missing role (omega (arith, lt, same)) miss));
})

-- the list is as long
pub taken-long : (old new : Members) → IsTaken old new → IsTrue (is_valid_shape (shape_of old.newest)) → IsTrue (is_valid_shape (shape_of new.newest)) → list_length new.newest ≡ list_length old.newest
taken-long old new (inl up) valid valid' =
    list-still new.newest up.still_too ∙ (λ i. data_disks (up.shape i) * up.size i) ∙ ap (λ (n : ℕ). n * old.newest.size) (taken-over (shape_of old.newest) valid up.five).deep ∙ sym (list-still old.newest up.still)
taken-long old new (inr down) valid valid' = sym (
    list-still old.newest down.still ∙ (λ i. data_disks (down.shape i) * sym down.size i) ∙ ap (λ (n : ℕ). n * new.newest.size) (taken-over (shape_of new.newest) valid' down.five).deep
    ∙ sym (list-still new.newest down.still_too))

-- ---- the list

module _ (scope : Scope) (given : Given) (old new : Members) (taken : IsTaken old new) (was : IsPlaced given old) (unlost : AreUnlost old) (placed : IsPlaced given new) (c c' : Contents) (list : ℕ → Sector)
    (others : AreOthersPresent c c') where
  placed-old : ArePlaced (alone_of scope) given old
  placed-old = alone-placed scope given old was (still-before old new taken) c

  placed-new : ArePlaced (alone_of scope) given new
  placed-new = alone-placed scope given new placed (still-then old new taken) c

  alike : ArePlacesAlike old new
  alike = place-alike (alone_of scope) given old new placed-old placed-new taken

  there : IsMoved given old old
  there = moved-same given given old old refl refl was unlost

  pub stands-then : ListStands None old c list → ListStands None new c' list
  stands-then stands = (places-alike-stand (alone_of scope) given old new c' list placed-new alike).0 (shown-moved given old old c c' list there was others None stands)

  pub rows-then : RowsStand None old c list → RowsStand None new c' list
  rows-then rows = (places-alike-stand (alone_of scope) given old new c' list placed-new alike).1 (shown-rows-moved given old old c c' list there was others None rows)
