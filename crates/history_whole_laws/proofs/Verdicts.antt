-- What a verdict refuses for.
use Rattle.std.proofs.Common.{ℕ, ◌+◌, ◌*◌, Bool, true, false, not, ◌&&◌, ◌||◌, ◌==◌, cond, List, Option, None, Some, subst}
use Rattle.std.specs.Prelude.{IfSome, option_map, find}
use Rattle.std.specs.Option.{option_map_or, option_or}
use Rattle.history.specs.raid_types_the_Refusal.{Refusal}
use Rattle.history.specs.raid_types_the_Refusal_TheVariants.{NoSuperblock, Unsupported, BadField, TwoHolders, MembersMissing, DirtyDegraded, PositionNotOnUnit, BackupAbsent}
use Rattle.history.specs.raid_types_the_Role.{Role}
use Rattle.history.specs.raid_types_the_Shape.{Shape}
use Rattle.history.specs.raid_types_Search.{least_below}
use Rattle.history.specs.raid_types_Shapes.{tolerance, is_multiple}
use Rattle.history.specs.sb_codec_Features.{refused_bits}
use Rattle.history.specs.sb_codec_the_Sb.{Sb}
use Rattle.history.specs.sb_specs_Reading.{Scope, Reading, reading, is_clean, is_reshaping, shapes_in_force, role_count, list_length}
use Rattle.history.specs.sb_specs_Verdict.{fresh_from, unsupported, judged_fields, first_bad_entry, bad_field, shared_dev, two_holders, is_missing, missing_count, too_many, members_missing, holds_data, dirty_degraded, unit_of, off_unit, members_refusal}
use Rattle.history.specs.Stands.{verdict, refusal_of, backup_absent, has_room, reach_of}
use Rattle.history_whole_laws.specs.Unfailed.{IsForNoFailure, VerdictsTellNoFailure}

-- ---- optional refusals, none of which is for a failure

abbrev Unfailed : Option Refusal → Type 0
Unfailed refusal = IfSome refusal IsForNoFailure

either : (a b : Option Refusal) → Unfailed a → Unfailed b → Unfailed (option_or a b)
either None b first second = second
either (Some refusal) b first second = first

each : {T : Type 0} (f : T → Refusal) (o : Option T) → ((x : T) → IsForNoFailure (f x)) → Unfailed (option_map f o)
each f None always = tt
each f (Some x) always = always x

on-test : (b : Bool) (x y : Option Refusal) → Unfailed x → Unfailed y → Unfailed (cond b x y)
on-test true x y first second = first
on-test false x y first second = second

-- ---- the verdict

module _ (newest : Sb) (slots : List (Sb × ℕ)) where
  unsupported-for : Unfailed (unsupported slots)
  unsupported-for = each (λ (s : Sb × ℕ). Unsupported (refused_bits s.0.feature_map)) (find (λ s. not (refused_bits s.0.feature_map == 0)) slots) (λ s. tt)

  field-for : Unfailed (bad_field newest slots)
  field-for = either (option_map (λ f. BadField f.0) (find (λ f. f.1) (judged_fields newest slots))) (option_map (λ index. BadField (256 + 2 * index)) (first_bad_entry newest slots))
      (each (λ (f : ℕ × Bool). BadField f.0) (find (λ f. f.1) (judged_fields newest slots)) (λ f. tt)) (each (λ (index : ℕ). BadField (256 + 2 * index)) (first_bad_entry newest slots) (λ index. tt))

  holders-for : Unfailed (two_holders slots)
  holders-for = each (λ (dev : ℕ). TwoHolders dev) (shared_dev slots) (λ dev. tt)

module _ (newest : Sb) (roles : List Role) where
  missing-for : Unfailed (members_missing newest roles)
  missing-for = each (λ (shape : Shape). MembersMissing (missing_count roles shape) (tolerance shape)) (find (too_many roles) (shapes_in_force newest)) (λ shape. tt)

  degraded-for : Unfailed (dirty_degraded newest roles)
  degraded-for = on-test (is_clean newest) None (option_map (λ role. DirtyDegraded role) (least_below (role_count newest) (λ role. is_missing roles role && holds_data newest role))) tt
      (each (λ (role : ℕ). DirtyDegraded role) (least_below (role_count newest) (λ role. is_missing roles role && holds_data newest role)) (λ role. tt))

unit-for : (newest : Sb) → Unfailed (off_unit newest)
unit-for newest = on-test (not (is_reshaping newest) || is_multiple newest.reshape_position (unit_of newest) || (newest.reshape_position == list_length newest)) None
    (Some (PositionNotOnUnit newest.reshape_position (unit_of newest))) tt tt

backup-for : (scope : Scope) (newest : Sb) → Unfailed (backup_absent scope newest)
backup-for scope newest = on-test (not (is_reshaping newest) || has_room scope (reach_of newest)) None (Some BackupAbsent) tt tt

members-for : (sectors : ℕ → ℕ) (r : Reading) → Unfailed (members_refusal sectors r)
members-for sectors r =
    let slots = fresh_from r.newest sectors 0 r.own in
    let unit = option_or (off_unit r.newest) None in
    let degraded = option_or (dirty_degraded r.newest r.roles) unit in
    let missing = option_or (members_missing r.newest r.roles) degraded in
    let holders = option_or (two_holders slots) missing in
    let field = option_or (bad_field r.newest slots) holders in
    either (unsupported slots) field (unsupported-for r.newest slots)
    (either (bad_field r.newest slots) holders (field-for r.newest slots)
    (either (two_holders slots) missing (holders-for r.newest slots)
    (either (members_missing r.newest r.roles) degraded (missing-for r.newest r.roles)
    (either (dirty_degraded r.newest r.roles) unit (degraded-for r.newest r.roles)
    (either (off_unit r.newest) None (unit-for r.newest) tt)))))

verdict-for : (scope : Scope) (found : Option Reading) → Unfailed (option_map_or (refusal_of scope) found (Some NoSuperblock))
verdict-for scope None = tt
verdict-for scope (Some r) = either (members_refusal scope.sizes.sectors r) (backup_absent scope r.newest) (members-for scope.sizes.sectors r) (backup-for scope r.newest)

pub verdict-unfailed : VerdictsTellNoFailure
unfolding verdict
verdict-unfailed scope c refusal is = subst (λ (o : Option Refusal). Unfailed o) is (verdict-for scope (reading scope c))
