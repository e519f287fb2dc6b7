-- The members at the end of a mark: where they are placed, which slots are live, and what the mark touched.
use Rattle.std.proofs.Common.{◌≡◌, ◌⊎◌, ℕ, ◌<◌, ◌||◌, ◌&&◌, Bool, true, false, not, cond, nat_lt, max, List, Option, Some, None, unwrap_or, replicate, refl, sym, ◌∙◌, ap, arith}
use Rattle.std.specs.List.{list_any}
use Rattle.std.proofs.lemmas.Bool.Decides.{nat_tests}
use Rattle.raid_layout.specs.raid_types_Shapes.{has_slot}
use Rattle.raid_layout.specs.raid_types_the_Shape.{Shape}
use Rattle.raid_layout.specs.raid_types_the_Role.{Role}
use Rattle.sb_update.specs.sb_specs_the_Give.{Give}
use Rattle.sb_update.specs.sb_specs_the_Give_TheVariants.{Same}
use Rattle.sb_update.specs.sb_specs_the_Members.{Members}
use Rattle.sb_update.specs.sb_specs_Reading.{is_reshaping, shape_of, role_count}
use Rattle.sb_update.specs.sb_specs_Update.{give_of, is_held_by, is_planned_spare}
use Rattle.sb_update.specs.sb_specs_Updating.{IsSomeLeft}
use Rattle.sb_update.specs.sb_specs_Outcome.{live_set, planned_spares}
use Rattle.sb_update.specs.sb_specs_Reads.{has_spare}
use Rattle.array_members.proofs.sb_read_laws_SaidSlots.{has-slots_below}
use Rattle.array_members.specs.Placed.{AreLess}
use Rattle.array_members.specs.crash_safety_laws_Marking.{marking}
use Rattle.array_members.specs.crash_safety_laws_Safety.{HasLiveSlot}
use Rattle.array_members.proofs.crash_safety_laws_Kept.{give_of-same}
use Rattle.array_members.proofs.crash_safety_laws_Without.{any-without, live-is}
use Rattle.array_members.proofs.crash_safety_laws_Stretch.{some-left}

-- ---- a live slot is left, or none

pub live-small : (m : Members) (clean : Bool) (s : ℕ) → has_slot (live_set m (marking m clean)) s ≡ true → s < 32
live-small m clean s is = below (nat_lt s 32) refl (sym (live-is m clean s) ∙ is)
  where
    below : (b : Bool) → nat_lt s 32 ≡ b → (b && ((list_any (is_held_by s) m.roles || has_spare m.spares s) || false)) ≡ true → s < 32
    below true lt e = grind (arith, nat_tests, lt)
    below false lt e = absurd (cc)

pub some-or-none : (m : Members) (clean : Bool) (lost : ℕ) → IsSomeLeft (live_set m (marking m clean)) lost ⊎ (IsSomeLeft (live_set m (marking m clean)) lost → ⊥)
some-or-none m clean lost = some-left (live_set m (marking m clean)) lost (live-small m clean)

-- without a reshape there are as many roles as disks
pub count-is : (m : Members) → is_reshaping m.newest ≡ false → role_count m.newest ≡ (shape_of m.newest).disks
count-is m still =
    ap (λ (target : Option Shape). max (shape_of m.newest).disks (unwrap_or target (shape_of m.newest)).disks)
    (ap (λ (b : Bool). cond b (Some (record { level = m.newest.new_level; layout = m.newest.new_layout; chunk = m.newest.new_chunk; disks = m.newest.raid_disks })) None) still)
    ∙ same (shape_of m.newest).disks
  where
    same : (n : ℕ) → max n n ≡ n
    same n = grind (arith, nat_tests)

-- ---- the end

module _ (clean : Bool) (old new : Members) (less : AreLess new.lost old new) (spares : new.spares ≡ planned_spares old (marking old clean) new.lost) where
  held-new : (s : ℕ) → list_any (is_held_by s) new.roles ≡ (not (has_slot new.lost s) && list_any (is_held_by s) old.roles)
  held-new s = ap (λ (l : List Role). list_any (is_held_by s) l) less.roles ∙ any-without new.lost s old.roles

  spares-new : (s : ℕ) → has_spare new.spares s ≡ (nat_lt s 32 && (not (has_slot new.lost s) && (has_spare old.spares s || false)))
  spares-new s =
      ap (λ (l : List ℕ). has_spare l s) spares
      ∙ has-slots_below (λ slot. not (has_slot new.lost slot) && is_planned_spare old.spares None (give_of (replicate 32 Same) slot) slot) s 32
      ∙ ap (λ (g : Give). nat_lt s 32 && (not (has_slot new.lost s) && is_planned_spare old.spares None g s)) (give_of-same 32 s)

  -- a slot that is live was live
  live-before : (s : ℕ) → has_slot (live_set new (marking new false)) s ≡ true → has_slot (live_set old (marking old clean)) s ≡ true
  live-before s is =
      live-is old clean s
      ∙ wider (nat_lt s 32) (not (has_slot new.lost s)) (list_any (is_held_by s) old.roles) (has_spare old.spares s)
      ((λ i. nat_lt s 32 && ((sym (held-new s) i || sym (spares-new s) i) || false)) ∙ sym (live-is new false s) ∙ is)
    where
      wider : (below kept role spare : Bool) → (below && (((kept && role) || (below && (kept && (spare || false)))) || false)) ≡ true → (below && ((role || spare) || false)) ≡ true
      wider false kept role spare e = absurd (cc)
      wider true true true spare e = refl
      wider true true false true e = refl
      wider true true false false e = absurd (cc)
      wider true false role spare e = absurd (cc)

  -- where a live slot is left, it was live in the mark
  pub left-in-mark : HasLiveSlot new → IsSomeLeft (live_set old (marking old clean)) new.lost
  left-in-mark some = (some.0, live-before some.0 some.1, some.2)
