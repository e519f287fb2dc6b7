-- What was lost in the update that takes a level over.
use Rattle.std.proofs.Common.{◌≡◌, ◌⊎◌, inl, inr, ℕ, ◌<◌, ◌&&◌, ◌||◌, nat_lt, Bool, true, false, not, Option, None, Some, is_some, List, get_or, refl, sym, ◌∙◌, ap, arith}
use Rattle.std.specs.Prelude.{IsTrue}
use Rattle.std.specs.List.{list_any}
use Rattle.std.proofs.lemmas.Bool.Decides.{nat_tests}
use Rattle.reshape_begin_end.specs.raid_types_Shapes.{has_slot, is_valid_shape}
use Rattle.reshape_begin_end.specs.raid_types_the_Shape.{Shape}
use Rattle.reshape_begin_end.specs.raid_types_the_Role.{Role}
use Rattle.reshape_begin_end.specs.raid_types_the_Role_TheVariants.{Missing}
use Rattle.reshape_begin_end.proofs.raid_types_Tabulated.{length-tabulate, get_or-tabulate}
use Rattle.reshape_begin_end.specs.bank_the_Operation.{Operation}
use Rattle.reshape_begin_end.specs.bank_Given.{Given, IsFaulted}
use Rattle.reshape_begin_end.specs.sb_specs_the_Change.{Change}
use Rattle.reshape_begin_end.specs.sb_specs_the_Give.{Give}
use Rattle.reshape_begin_end.specs.sb_specs_the_Members.{Members}
use Rattle.reshape_begin_end.specs.sb_specs_Reading.{is_reshaping, shape_of, role_count, role_state, holder}
use Rattle.reshape_begin_end.specs.sb_specs_Reads.{has_spare}
use Rattle.reshape_begin_end.specs.sb_specs_Update.{give_of, is_held_by, is_live, role_from, planned_role, is_planned_spare}
use Rattle.reshape_begin_end.specs.sb_specs_Updating.{AreLosses}
use Rattle.reshape_begin_end.specs.sb_specs_Outcome.{live_set, planned_state, planned_roles}
use Rattle.reshape_begin_end.proofs.sb_specs_SlotSets.{some_role}
use Rattle.reshape_begin_end.proofs.sb_read_laws_SaidSlots.{below-length}
use Rattle.reshape_begin_end.specs.stripe_row_Rows.{reading_of}
use Rattle.reshape_begin_end.specs.crash_safety_laws_Changing.{IsChanged}
use Rattle.reshape_begin_end.specs.crash_safety_laws_Updates.{planned_view}
use Rattle.reshape_begin_end.proofs.crash_safety_laws_PlannedRoles.{held-planned, planned-held}
use Rattle.reshape_begin_end.proofs.crash_safety_laws_Without.{live-of}
use Rattle.reshape_begin_end.specs.array_members_Placed.{IsPlaced}
use Rattle.reshape_begin_end.specs.array_members_Rebuilding.{AreSparesFree}
use Rattle.reshape_begin_end.specs.array_members_Lacking.{HaveFailedSince}
use Rattle.reshape_begin_end.proofs.Made.{spare-planned, planned-spare}
use Rattle.reshape_sb_takeover.specs.TakingOver.{CanTakeOver, taking_over}
use Rattle.reshape_sb_takeover.proofs.TakenPlan.{live, one-holder, spare-roomy, gives-or}

flip : (b : Bool) → not b ≡ true → b ≡ false
flip true e = absurd (cc)
flip false e = refl

both : (a b : Bool) → (a && b) ≡ true → (a ≡ true) × (b ≡ true)
both true b e = (refl, e)
both false b e = absurd (cc)

second : (a b : Bool) → (a || b) ≡ true → a ≡ false → b ≡ true
second false b is none = is
second true b is none = absurd (cc)

or-so : (b : Bool) → b ≡ true → (b || false) ≡ true
or-so true is = refl
or-so false is = is

below-of : (a b : ℕ) → nat_lt a b ≡ true → a < b
below-of a b is = grind (arith, nat_tests, is)

from-some : (o : Option ℕ) → is_some o ≡ true → (role : ℕ) × (o ≡ Some role)
from-some None is = absurd (cc)
from-some (Some role) is = (role, refl)

module _ (given : Given) (old : Members) (to : Shape) (slot : ℕ) (placed : IsPlaced given old) (free : AreSparesFree given old) (still : is_reshaping old.newest ≡ false) (valid : IsTrue (is_valid_shape to))
    (can : CanTakeOver old to slot) (new : Members) {tells : Type 0} {before after : List Operation} (done : IsChanged tells given (taking_over old to slot) old new before after)
    (lost held told : ℕ) (f g : ℕ → ℕ) (losses : AreLosses (live_set old (taking_over old to slot)) old.lost new.lost f g)
    (lost-is : (s : ℕ) → has_slot lost s ≡ (has_slot new.lost s && not (has_slot old.lost s)))
    (held-is : (s : ℕ) → has_slot held s ≡ true → (role : ℕ) × (planned_role old.roles (give_of (taking_over old to slot).gives s) s ≡ Some role))
    (held-all : (s role : ℕ) → s < 32 → planned_role old.roles (give_of (taking_over old to slot).gives s) s ≡ Some role → has_slot held s ≡ true)
    (told-is : (s : ℕ) → has_slot told s ≡ (has_slot lost s && not (has_slot held s))) where
  abbrev ch : Change
  ch = taking_over old to slot

  abbrev Plan : Members
  Plan = planned_view old (taking_over old to slot) old.lost

  roles-failed : (role s : ℕ) → holder (role_state (reading_of Plan) role) ≡ Some s → (holder (role_state (reading_of new) role) ≡ Some s) ⊎ IsFaulted s f g
  roles-failed role s has = of (has_slot new.lost s) refl
    where
      was : (s < 32) × (has_slot old.lost s ≡ false) × (planned_role old.roles (give_of ch.gives s) s ≡ Some role)
      was = held-planned old Plan ch (live given old to slot placed free still valid can) refl refl role s has

      below : role < role_count ch.shared
      below = (let n = below-length (planned_roles old ch old.lost) role s has in let all = length-tabulate (role_count ch.shared) (planned_state old.roles ch.gives old.lost) in omega (arith, n, all))

      of : (b : Bool) → has_slot new.lost s ≡ b → (holder (role_state (reading_of new) role) ≡ Some s) ⊎ IsFaulted s f g
      of true gone = inr (losses.failed s gone was.1)
      of false kept = inl (ap (λ (l : List Role). holder (get_or l role Missing)) done.roles
          ∙ ap holder (get_or-tabulate (role_count ch.shared) (planned_state old.roles ch.gives new.lost) role Missing below)
          ∙ planned-held old ch new.lost (one-holder given old to slot placed free still valid can new.lost done.stay) s role was.0 kept was.2)

  spares-failed : (s : ℕ) → has_slot told s ≡ true → IsFaulted s f g
  spares-failed s has =
      let parts = both (has_slot lost s) (not (has_slot held s)) (sym (told-is s) ∙ has) in
      let gone = both (has_slot new.lost s) (not (has_slot old.lost s)) (sym (lost-is s) ∙ parts.0) in
      losses.failed s gone.0 (flip (has_slot old.lost s) gone.1)

  -- a spare by the plan holds no role
  idle : (s : ℕ) → is_planned_spare old.spares ch.added (give_of ch.gives s) s ≡ true → has_slot held s ≡ false
  idle s so = of (has_slot held s) refl
    where
      of : (b : Bool) → has_slot held s ≡ b → b ≡ false
      of true is = absurd (let found = held-is s is in (spare-roomy given old to slot placed free still valid can s so).1 found.0 found.1)
      of false is = refl

  spares-told : (s : ℕ) → has_spare Plan.spares s ≡ true → (has_spare new.spares s ≡ true) ⊎ (has_slot told s ≡ true)
  spares-told s has = of (has_slot new.lost s) refl
    where
      was : (s < 32) × (has_slot old.lost s ≡ false) × (is_planned_spare old.spares ch.added (give_of ch.gives s) s ≡ true)
      was = spare-planned old ch old.lost s has

      of : (b : Bool) → has_slot new.lost s ≡ b → (has_spare new.spares s ≡ true) ⊎ (has_slot told s ≡ true)
      of false kept = inl (ap (λ (l : List ℕ). has_spare l s) done.spares ∙ planned-spare old ch new.lost s was.0 kept was.2)
      of true gone = inr (told-is s ∙ (λ i. lost-there i && not (idle s was.2 i)))
        where
          lost-there : has_slot lost s ≡ true
          lost-there = lost-is s ∙ (λ i. gone i && not (was.1 i))

  -- who is told as a spare was one by the plan
  pub spares-were : (s : ℕ) → has_slot told s ≡ true → has_spare (planned_view old (taking_over old to slot) old.lost).spares s ≡ true
  spares-were s has = planned-spare old ch old.lost s below kept so
    where
      parts : (has_slot lost s ≡ true) × (not (has_slot held s) ≡ true)
      parts = both (has_slot lost s) (not (has_slot held s)) (sym (told-is s) ∙ has)

      gone : (has_slot new.lost s ≡ true) × (not (has_slot old.lost s) ≡ true)
      gone = both (has_slot new.lost s) (not (has_slot old.lost s)) (sym (lost-is s) ∙ parts.0)

      kept : has_slot old.lost s ≡ false
      kept = flip (has_slot old.lost s) gone.1

      was : (nat_lt s 32 ≡ true) × (is_live old.roles old.spares s ≡ true)
      was = both (nat_lt s 32) (is_live old.roles old.spares s) (sym (live-of old ch refl s) ∙ losses.live s gone.0 kept)

      below : s < 32
      below = below-of s 32 was.0

      no-role : (role : ℕ) → planned_role old.roles (give_of ch.gives s) s ≡ Some role → ⊥
      no-role role is = absurd (let none = flip (has_slot held s) parts.1 in let there = held-all s role below is in let clash = sym none ∙ there in cc)

      none-held : (b : Bool) → list_any (is_held_by s) old.roles ≡ b → planned_role old.roles (give_of ch.gives s) s ≡ role_from s 0 old.roles → b ≡ false
      none-held false is gets = refl
      none-held true is gets = absurd (let found = from-some (role_from s 0 old.roles) (some_role s 0 old.roles ∙ is) in no-role found.0 (gets ∙ found.1))

      so : is_planned_spare old.spares ch.added (give_of ch.gives s) s ≡ true
      so = elim (gives-or given old to slot placed free still valid can s) [
        | inl (same, up, gets) ↦ absurd (no-role (shape_of old.newest).disks (ap (λ (g : Give). planned_role old.roles g s) gets))
        | inr (inl (same, down, gets)) ↦ ap (λ (g : Give). is_planned_spare old.spares None g s) gets
        | inr (inr (apart, gets)) ↦ ap (λ (g : Give). is_planned_spare old.spares None g s) gets
            ∙ or-so (has_spare old.spares s)
            (second (list_any (is_held_by s) old.roles) (has_spare old.spares s) was.1
            (none-held (list_any (is_held_by s) old.roles) refl (ap (λ (g : Give). planned_role old.roles g s) gets)))
      ]

  -- a spare then is one by the plan
  spares-fewer : (s : ℕ) → has_spare new.spares s ≡ true → has_spare Plan.spares s ≡ true
  spares-fewer s has =
      let was = spare-planned old ch new.lost s (ap (λ (l : List ℕ). has_spare l s) (sym done.spares) ∙ has) in
      planned-spare old ch old.lost s was.0 (kept (has_slot old.lost s) refl was.1) was.2
    where
      kept : (b : Bool) → has_slot old.lost s ≡ b → has_slot new.lost s ≡ false → has_slot old.lost s ≡ false
      kept true gone left = absurd (let stays = done.stay s gone in let clash = sym stays ∙ left in cc)
      kept false is left = is

  pub taken-failed : HaveFailedSince (planned_view old (taking_over old to slot) old.lost) new told f g
  taken-failed = record { roles = roles-failed; spares_are = spares-failed; were = spares-were; fewer = spares-fewer; told = spares-told }
