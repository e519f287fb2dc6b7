-- A reply to a request for steps: what is kept behind it.
use Rattle.std.proofs.Common.{◌≡◌, ◌≢◌, inl, inr, ℕ, ◌==◌, Bool, true, false, Option, Some, None, List, [], ◌∷◌, ◌++◌, length, refl, sym, ◌∙◌, arith}
use Rattle.std.proofs.lemmas.Bool.Decides.{nat_tests}
use Rattle.std.specs.Prelude.{IfSome, MatchOption, ⊤}
use Rattle.array_specs.specs.raid_types_the_Refusal.{Refusal}
use Rattle.array_specs.specs.raid_types_the_Refusal_TheVariants.{Degraded, NeedSpares, BackupFault, Nothing}
use Rattle.array_fixed_invariant.specs.raid_types_the_Who.{Who}
use Rattle.array_fixed_invariant.specs.bank_the_Operation.{Operation}
use Rattle.array_fixed_invariant.specs.bank_Given.{Given}
use Rattle.array_fixed_invariant.specs.sb_specs_the_Members.{Members}
use Rattle.array_fixed_invariant.specs.sb_specs_Reading.{Scope, shape_of}
use Rattle.array_fixed_invariant.specs.history_the_Entry.{Entry}
use Rattle.array_fixed_invariant.specs.history_the_Event.{Event}
use Rattle.array_fixed_invariant.specs.history_the_Event_TheVariants.{Refused, Stepped}
use Rattle.array_fixed_invariant.specs.history_Legal.{IsRefusedRight}
use Rattle.array_fixed_invariant.specs.history_Plain.{entries_of}
use Rattle.array_fixed_invariant.specs.history_World.{World}
use Rattle.array_fixed_invariant.specs.array_members_the_Work.{Work}
use Rattle.array_fixed_invariant.specs.array_members_Status.{left_of}
use Rattle.array_fixed_invariant.specs.reshape_request_Left.{phases_of}
use Rattle.array_fixed_invariant.proofs.array_members_LackingLaws.{never-both}
use Rattle.array_fixed_invariant.proofs.history_append_LeftLaws.{left-more, keeps-left}
use Rattle.array_fixed_invariant.specs.array_call_specs_Calls.{IsLossBy}
use Rattle.array_fixed_invariant.specs.reshape_request_the_PhasesLeft.{PhasesLeft}
use Rattle.array_fixed_invariant.specs.history_invariant_Recorded.{IsCallGoing, entry_of}
use Rattle.array_fixed_invariant.specs.history_invariant_Safe.{world_in}
use Rattle.array_fixed_invariant.specs.history_invariant_laws_Reliable.{IsReliable}
use Rattle.array_fixed_invariant.specs.Still.{IsStill}
use Rattle.array_fixed_invariant.proofs.Ends.{EndsPlans}
use Rattle.array_fixed_invariant.proofs.Refusals.{refused-right}
use Rattle.array_fixed_invariant.proofs.Resting.{resting-stands}
use Rattle.array_specs.specs.Parts.{still_left}
use Rattle.array_specs.proofs.Called.{not_254}
use Rattle.array_specs.proofs.Lengths.{IsLengthKept, alone-keeps}
use Rattle.array_fixed_laws.specs.Steps.{RefusesBegin, MayEndNow, IsStepsReplyNow, MayAnswer}
use Rattle.array_fixed_laws.proofs.Closing.{LeadTo, ahead-none, leaves-or-closes, resync-over}
use Rattle.array_fixed_laws.proofs.StepLaws.{step-refused, refused-going}

pub answer-stands : {tells : Type 0} {given : Given} {tape : List Operation} {scope : Scope} {first : ℕ} {entries : List Entry} (work : Work) (m : Members) (ahead : PhasesLeft) (who : Who) (end : ℕ) (event : Event)
    → IsStill tells given tape scope first entries m work (still_left work m ahead)
    → IsCallGoing entries who → who.caller ≢ 254 → (tells → end ≡ length tape) → LeadTo tells (world_in given tape scope first) entries m ahead → MayAnswer entries work m ahead event → IsStepsReplyNow work m ahead event
    → IsStill tells given tape scope first (entries ++ entries_of who end (event ∷ [])) m work (still_left work m ahead)
answer-stands work m ahead who end (Refused Nothing) was goes caller at_end plans may reply = refused-going who end Nothing was goes caller at_end tt
answer-stands {tells = tells} {given = given} {tape = tape} {scope = scope} {first = first} {entries = entries} work m ahead who end (Stepped done left ended) was goes caller at_end plans may reply =
    resting-stands tells given tape scope first entries m work (still_left work m ahead) (still_left work m ahead)
    who end (Stepped done left ended) was goes (not_254 who.caller caller) at_end (record { adds = refl; gives = refl; still = λ x values. refl; level = λ n. refl })
    (closes ended reply.1 may)
    (left-more (still_left work m ahead) entries who end (Stepped done left ended ∷ []) was.left_told (λ told is. reply.0))
    (λ t right. (keeps-left (still_left work m ahead) entries (entry_of who end (Stepped done left ended)) [] left was.left_told reply.0, ended-right ended reply.1 t right))
  where
    begin-right : (world : World) (before : List Entry) (refusal : Refusal) → RefusesBegin refusal → IsRefusedRight world before refusal
    begin-right world before (Degraded role) why = tt
    begin-right world before (NeedSpares have want) why = tt
    begin-right world before BackupFault why = tt
    begin-right world before refusal why = absurd why

    -- where no step is left, no plan is open, or what is missing can be told; or too many are missing, so that a step was refused
    closes : (ended : Option Refusal) → MatchOption ended ⊤ (MayEndNow work m ahead) → MayAnswer entries work m ahead (Stepped done left ended) → EndsPlans tells (world_in given tape scope first) entries m work (Stepped done left ended)
    closes (Some refusal) (inr begins) may = leaves-or-closes m m ahead (Stepped done left (Some refusal)) left plans was.members_are.still refl reply.0 refl refl
        (λ zero can. absurd (begins.1 (ahead-none (shape_of m.newest) m.newest.size (left_of work m) (phases_of ahead) (sym reply.0 ∙ zero))))
    closes (Some refusal) (inl why) may = leaves-or-closes m m ahead (Stepped done left (Some refusal)) left plans was.members_are.still refl reply.0 refl refl
        (λ zero can. absurd (never-both m refusal can (why.1 (resync-over work m ahead (sym reply.0 ∙ zero)))))
    closes None why may = of (left == 0) refl
      where
        zero-is : (n : ℕ) → (n == 0) ≡ true → n ≡ 0
        zero-is n is = grind (arith, nat_tests, is)

        of : (b : Bool) → (left == 0) ≡ b → EndsPlans tells (world_in given tape scope first) entries m work (Stepped done left None)
        of false is = inl is
        of true is = elim (may (sym reply.0 ∙ zero-is left is)) [
          | inl none ↦ inr (inl (none, refl))
          | inr named ↦ leaves-or-closes m m ahead (Stepped done left None) left plans was.members_are.still refl reply.0 refl refl (λ zero can. named)
        ]

    ended-right : (ended : Option Refusal) → MatchOption ended ⊤ (MayEndNow work m ahead) → (t : tells) → IsReliable (world_in given tape scope first) entries
        → IfSome ended (IsRefusedRight (world_in given tape scope first) entries)
    ended-right None why t right = tt
    ended-right (Some refusal) (inr begins) t right = begin-right (world_in given tape scope first) entries refusal begins.0
    ended-right (Some refusal) (inl why) t right =
        refused-right (world_in given tape scope first) entries given m was.members_are.placed work.resync (was.gone t right) (was.levelled t right) (was.pending t) refusal
        (step-refused given m was.members_are.placed refusal work.resync why.0 why.1)
answer-stands work m ahead who end event was goes caller at_end plans may reply = absurd reply

pub reply-keeps : (work : Work) (m : Members) (ahead : PhasesLeft) (who : Who) (end : ℕ) (event : Event) → IsStepsReplyNow work m ahead event → IsLengthKept (entries_of who end (event ∷ []))
reply-keeps work m ahead who end (Refused Nothing) reply = alone-keeps who end (Refused Nothing) (λ n. refl) (λ limit. refl)
reply-keeps work m ahead who end (Stepped done left ended) reply = alone-keeps who end (Stepped done left ended) (λ n. refl) (λ limit. refl)
reply-keeps work m ahead who end event reply = absurd reply

pub reply-lossless : (work : Work) (m : Members) (ahead : PhasesLeft) (Had : ℕ → ℕ → Type 0) (Was : ℕ → Type 0) (before after : ℕ → ℕ) (event : Event) → IsStepsReplyNow work m ahead event → IsLossBy Had Was before after event
reply-lossless work m ahead Had Was before after (Refused Nothing) reply = tt
reply-lossless work m ahead Had Was before after (Stepped done left ended) reply = tt
reply-lossless work m ahead Had Was before after event reply = absurd reply
