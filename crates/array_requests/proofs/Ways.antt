-- Where an array goes by callers' calls.
use Rattle.std.proofs.Common.{◌≡◌, ℕ, true, false, List, [], ◌∷◌, ◌++◌, length, drop, refl, sym, ◌∙◌, ap}
use Rattle.std.proofs.Math.Seq.{drop-append_seam}
use Rattle.std.specs.Prelude.{if◌then◌else◌}
use Rattle.std.specs.List.{list_any}
use Rattle.array_call_specs.specs.raid_types_the_Who.{Who}
use Rattle.bank.specs.raid_types_the_Wish.{Wish}
use Rattle.history_append.specs.reshape_plan_Plans.{last_shape}
use Rattle.array_open.specs.sb_specs_the_Members.{Members}
use Rattle.array_open.specs.sb_specs_Reading.{is_reshaping, shape_of, final_shape}
use Rattle.history_append.specs.history_the_Entry.{Entry}
use Rattle.history_append.specs.history_the_Event_TheVariants.{Planned}
use Rattle.history_append.specs.history_the_Request_TheVariants.{Grow as AsksGrow}
use Rattle.history_append.specs.history_Reshaped.{is_planned}
use Rattle.array_open.specs.reshape_request_Left.{phases_of}
use Rattle.history_append.proofs.PlainLaws.{one}
use Rattle.array_open.specs.array_specs_Parts.{RunningParts}
use Rattle.array_open.specs.array_reply_specs_Replies.{IsAnsweredWith}
use Rattle.array_open.specs.array_steps_Steps.{is_turn, KeepsItsWay}
use Rattle.array_requests.specs.Going.{GoesItsWay}
use Rattle.array_requests.proofs.Held.{any-right, none-left, none-right}

module _ {B : Type 0} where
  pub way-none : (array : RunningParts B) → GoesItsWay array array []
  way-none array = record { size = refl; aim = λ none. refl; unturned = λ none calm. record { active = refl; shape = refl; final = refl; ahead = refl } }

  -- one after another
  pub way-then : (old mid new : RunningParts B) (one two : List Entry) → GoesItsWay old mid one → GoesItsWay mid new two → GoesItsWay old new (one ++ two)
  way-then old mid new one two first next = record {
    size = next.size ∙ first.size;
    aim = λ none. next.aim (none-right is_planned one two none) ∙ first.aim (none-left is_planned one two none);
    unturned = λ none calm.
        let a = first.unturned (none-left is_planned one two none) (none-left is_turn one two calm) in
        let b = next.unturned (none-right is_planned one two none) (none-right is_turn one two calm) in
        record { active = b.active ∙ a.active; shape = b.shape ∙ a.shape; final = b.final ∙ a.final; ahead = b.ahead ∙ a.ahead };
  }

  -- a call that changes none of it
  pub way-plain : (old new : RunningParts B) (more : List Entry) → new.parts.members.newest.size ≡ old.parts.members.newest.size → is_reshaping new.parts.members.newest ≡ is_reshaping old.parts.members.newest
      → shape_of new.parts.members.newest ≡ shape_of old.parts.members.newest → final_shape new.parts.members.newest ≡ final_shape old.parts.members.newest → new.ahead ≡ old.ahead → GoesItsWay old new more
  way-plain old new more size active shape final ahead = record {
    size = size;
    aim = λ none. (λ i. last_shape (if active i then final i else shape i) (phases_of (ahead i)));
    unturned = λ none calm. record { active = active; shape = shape; final = final; ahead = ahead };
  }

  pub way-same : (old new : RunningParts B) (more : List Entry) → new.parts.members ≡ old.parts.members → new.ahead ≡ old.ahead → GoesItsWay old new more
  way-same old new more members ahead =
      way-plain old new more (ap (λ (m : Members). m.newest.size) members) (ap (λ (m : Members). is_reshaping m.newest) members) (ap (λ (m : Members). shape_of m.newest) members)
      (ap (λ (m : Members). final_shape m.newest) members) ahead

  -- what a call entered, by its history before and behind it
  seam : (old new : RunningParts B) (more : List Entry) → new.parts.entries ≡ old.parts.entries ++ more → drop (length old.parts.entries) new.parts.entries ≡ more
  seam old new more grown = ap (drop (length old.parts.entries)) grown ∙ drop-append_seam old.parts.entries more

  -- steps
  pub way-stepped : {before now : ℕ → ℕ} (old new : RunningParts B) (more : List Entry) → new.parts.entries ≡ old.parts.entries ++ more → KeepsItsWay before now old new → GoesItsWay old new more
  way-stepped old new more grown kept = record {
    size = kept.size;
    aim = λ none. kept.aim;
    unturned = λ none calm. kept.unturned (ap (list_any (λ e. is_turn e.event)) (seam old new more grown) ∙ calm);
  }

  -- a plan is told
  pub way-planned : {size left : ℕ} {who : Who} {wish : Wish} (old new : RunningParts B) (more : List Entry) → new.parts.entries ≡ old.parts.entries ++ more → new.parts.members ≡ old.parts.members
      → IsAnsweredWith size (AsksGrow wish) who old.parts.entries new.parts.entries (Planned left wish) → GoesItsWay old new more
  way-planned {left = left} {who = who} {wish = wish} old new more grown members was = record {
    size = ap (λ (m : Members). m.newest.size) members;
    aim = λ none. absurd (let is : true ≡ false = planned none in cc);
    unturned = λ none calm. absurd (let is : true ≡ false = planned none in cc);
  }
    where
      entered : List Entry
      entered = was.inner ++ one who was.end (Planned left wish) ∷ []

      told : list_any (λ e. is_planned e.event) entered ≡ true
      told = any-right is_planned was.inner (one who was.end (Planned left wish) ∷ []) refl

      planned : list_any (λ e. is_planned e.event) more ≡ false → true ≡ false
      planned none = sym told ∙ ap (list_any (λ e. is_planned e.event)) (sym (seam old new entered was.is) ∙ seam old new more grown) ∙ none
