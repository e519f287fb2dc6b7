-- What a status tells of an array, whether a reshape is active in it or not.
use Rattle.std.proofs.Common.{◌≡◌, ◌∙◌, Bool, true, false, Option, Some, None, cond, MatchBool, sym, ap, subst}
use Rattle.std.specs.Prelude.{if◌then◌else◌, unwrap_or}
use Rattle.array_type.specs.raid_types_the_Shape.{Shape}
use Rattle.array_type.specs.raid_types_the_Status.{Status}
use Rattle.array_type.specs.sb_specs_Reading.{is_reshaping, is_clean, shape_of, target_of, final_shape, list_length}
use Rattle.array_type.specs.array_specs_Parts.{RunningParts, visible_in, left_in, still_left}
use Rattle.array_type.specs.array_specs_Calls.{IsStatusFor}
use Rattle.array_type.specs.array_specs_Still.{IsStillStatus}
use Rattle.array_type.proofs.array_fixed_laws_Asking.{status-same as rest-same}
use Rattle.array_type.proofs.array_reshaping_laws_Asking.{status-same as move-same}
use Rattle.array_type.specs.One.{running_left, IsShownAs}
use Rattle.array_type.proofs.Rest.{on-both}

module _ {B : Type 0} (array : RunningParts B) (status : Status) where
  -- what it tells alike
  pub record IsShownAlike : Type 0 where
    pub shape : status.shape ≡ shape_of array.parts.members.newest
    pub size : status.size ≡ array.parts.members.newest.size
    pub length : status.length ≡ list_length array.parts.members.newest
    pub visible : status.visible ≡ visible_in array
    pub clean : status.clean ≡ is_clean array.parts.members.newest
    pub events : status.events ≡ array.parts.members.newest.events
    pub roles : status.roles ≡ array.parts.members.roles
    pub spares : status.spares ≡ array.parts.members.spares

module _ {B : Type 0} {array : RunningParts B} {status : Status} where
  pub shown-in-reshape : is_reshaping array.parts.members.newest ≡ true → IsShownAs array status → IsStatusFor array status
  shown-in-reshape active shown = subst (λ (b : Bool). MatchBool b (IsStatusFor array status) (IsStillStatus array status)) active shown

  pub shown-at-rest : is_reshaping array.parts.members.newest ≡ false → IsShownAs array status → IsStillStatus array status
  shown-at-rest still shown = subst (λ (b : Bool). MatchBool b (IsStatusFor array status) (IsStillStatus array status)) still shown

  by-reshape : is_reshaping array.parts.members.newest ≡ true → IsStatusFor array status → IsShownAs array status
  by-reshape active shown = subst (λ (b : Bool). MatchBool b (IsStatusFor array status) (IsStillStatus array status)) (sym active) shown

  by-rest : is_reshaping array.parts.members.newest ≡ false → IsStillStatus array status → IsShownAs array status
  by-rest still shown = subst (λ (b : Bool). MatchBool b (IsStatusFor array status) (IsStillStatus array status)) (sym still) shown

  pub shown-alike : IsShownAs array status → IsShownAlike array status
  shown-alike shown = on-both (is_reshaping array.parts.members.newest)
      (λ active. let s = shown-in-reshape active shown in
      record { shape = s.shape; size = s.size; length = s.length; visible = s.visible; clean = s.clean; events = s.events; roles = s.roles; spares = s.spares })
      (λ still. let s = shown-at-rest still shown in
      record { shape = s.shape; size = s.size; length = s.length; visible = s.visible; clean = s.clean; events = s.events; roles = s.roles; spares = s.spares })

  pub shown-as : IsShownAlike array status → status.target ≡ target_of array.parts.members.newest
      → status.position ≡ (if is_reshaping array.parts.members.newest then array.parts.members.newest.reshape_position else 0)
      → status.left ≡ running_left array → IsShownAs array status
  shown-as s target position left = on-both (is_reshaping array.parts.members.newest)
      (λ active. by-reshape active (record {
        shape = s.shape;
        target = target ∙ has-target active;
        position = position ∙ ap (λ (b : Bool). cond b array.parts.members.newest.reshape_position 0) active;
        size = s.size;
        length = s.length;
        visible = s.visible;
        clean = s.clean;
        events = s.events;
        left = left ∙ ap (λ (b : Bool). cond b (left_in array.parts.work array.parts.members array.course array.ahead) (still_left array.parts.work array.parts.members array.ahead)) active;
        roles = s.roles;
        spares = s.spares;
      }))
      (λ still. by-rest still (record {
        shape = s.shape;
        target = target ∙ ap (λ (b : Bool). cond b (Some new) None) still;
        position = position ∙ ap (λ (b : Bool). cond b array.parts.members.newest.reshape_position 0) still;
        size = s.size;
        length = s.length;
        visible = s.visible;
        clean = s.clean;
        events = s.events;
        left = left ∙ ap (λ (b : Bool). cond b (left_in array.parts.work array.parts.members array.course array.ahead) (still_left array.parts.work array.parts.members array.ahead)) still;
        roles = s.roles;
        spares = s.spares;
      }))
    where
      new : Shape
      new = record { level = array.parts.members.newest.new_level; layout = array.parts.members.newest.new_layout; chunk = array.parts.members.newest.new_chunk; disks = array.parts.members.newest.raid_disks }

      has-target : is_reshaping array.parts.members.newest ≡ true → target_of array.parts.members.newest ≡ Some (final_shape array.parts.members.newest)
      has-target active =
          let is : target_of array.parts.members.newest ≡ Some new = ap (λ (b : Bool). cond b (Some new) None) active in
          is ∙ sym (ap (λ (o : Option Shape). Some (unwrap_or o (shape_of array.parts.members.newest))) is)

-- two of one array are the same
pub shown-same : {B : Type 0} (array : RunningParts B) (one two : Status) → IsShownAs array one → IsShownAs array two → one ≡ two
shown-same array one two first second = on-both (is_reshaping array.parts.members.newest)
    (λ active. move-same array one two (shown-in-reshape active first) (shown-in-reshape active second))
    (λ still. rest-same array one two (shown-at-rest still first) (shown-at-rest still second))
