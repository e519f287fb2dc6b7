-- A reply to a request for steps in a reshape: what is kept behind it.
use Rattle.std.proofs.Common.{◌≡◌, ◌≢◌, inl, inr, ℕ, ◌*◌, ◌<◌, Bool, Option, Some, None, List, [], ◌∷◌, ◌++◌, length, refl, sym, ◌∙◌, subst, arith}
use Rattle.std.specs.Prelude.{IfSome, is_some, MatchOption, ⊤}
use Rattle.array_type.specs.raid_types_the_Refusal.{Refusal}
use Rattle.array_type.specs.raid_types_the_Who.{Who}
use Rattle.array_type.specs.bank_the_Operation.{Operation}
use Rattle.array_type.specs.bank_Given.{Given}
use Rattle.array_type.specs.sb_specs_the_Members.{Members}
use Rattle.array_type.specs.sb_specs_Reading.{Scope}
use Rattle.array_type.specs.history_the_Entry.{Entry}
use Rattle.array_type.specs.history_the_Event.{Event}
use Rattle.array_type.specs.history_the_Event_TheVariants.{Stepped}
use Rattle.array_type.specs.history_Legal.{IsRefusedRight}
use Rattle.array_type.specs.history_Losses.{is_unsynced}
use Rattle.array_type.specs.history_Plain.{entries_of}
use Rattle.array_type.specs.history_World.{World}
use Rattle.array_type.specs.array_members_the_Work.{Work}
use Rattle.array_type.specs.array_members_Numbers.{bears}
use Rattle.array_type.specs.array_members_Placed.{IsPlaced}
use Rattle.array_type.proofs.array_members_Fit.{force-disks}
use Rattle.array_type.proofs.history_append_LeftLaws.{keeps-left}
use Rattle.array_type.specs.array_call_specs_Calls.{IsLossBy}
use Rattle.array_type.specs.reshape_request_the_PhasesLeft.{PhasesLeft}
use Rattle.array_type.specs.history_invariant_Recorded.{IsCallGoing, entry_of}
use Rattle.array_type.specs.history_invariant_Safe.{world_in}
use Rattle.array_type.specs.history_invariant_laws_Reliable.{IsReliable, AreToldGone}
use Rattle.array_type.proofs.history_invariant_laws_Quiet.{IsQuiet}
use Rattle.array_type.specs.reshape_progress_the_Course.{Course}
use Rattle.array_type.specs.array_reshaping_invariant_Moving.{IsMoving}
use Rattle.array_type.proofs.array_reshaping_invariant_Refusals.{refused-right}
use Rattle.array_type.proofs.array_reshaping_invariant_Resting.{resting-moves}
use Rattle.array_type.proofs.array_fixed_invariant_Resync.{not-zero}
use Rattle.array_type.specs.array_specs_Parts.{left_in}
use Rattle.array_type.proofs.array_specs_Called.{not_254}
use Rattle.array_type.specs.array_reshaping_laws_Ready.{IsReady}
use Rattle.array_type.proofs.array_reshaping_laws_ResyncLaws.{left-some}
use Rattle.array_type.proofs.array_specs_Lengths.{IsLengthKept, alone-keeps}
use Rattle.array_calls.specs.Replies.{IsUnmendableNow, IsEndedInReshape, IsReplyInReshape}

-- ---- a reply

-- steps are left, the end of the reshape at least
reply-left : {tells : Type 0} {given : Given} {tape : List Operation} {scope : Scope} {first : ℕ} {entries : List Entry} {m : Members} {carried : ℕ → ℕ → Bool} {resync : Option ℕ} {buffer : List ℕ} {left : ℕ} (work : Work) (course : Course) (ahead : PhasesLeft)
    → IsMoving tells given tape scope first entries m carried resync course buffer left → left_in work m course ahead ≢ 0
reply-left {m = m} work course ahead was = left-some m work course ahead was.members_are.active was.course_is

quiet-reply : (done left : ℕ) (ended : Option Refusal) → left ≢ 0 → IsQuiet (Stepped done left ended)
quiet-reply done left ended some = record { adds = refl; gives = refl; ends = not-zero left some; still = λ x values. refl; level = λ n. refl; other = refl }

-- what is told of a missing role that has data is right, where the history tells that a resync is pending
unmended-right : (world : World) (before : List Entry) (given : Given) (m : Members) (work : Work) → IsPlaced given m → AreToldGone world before m → is_unsynced world before ≡ is_some work.resync
    → (refusal : Refusal) → IsUnmendableNow work m refusal → IsRefusedRight world before refusal
unmended-right world before given m work placed gone pending refusal (waits, shape, force, lacked) =
    subst (λ (r : Refusal). IsRefusedRight world before r) (sym lacked.1)
    (gone lacked.0 (let lt = lacked.4.0 in let disks = force-disks m.newest placed.fit shape force in omega (arith, lt, disks)) lacked.3, pending ∙ waits)

pub answer-moves : {tells : Type 0} {given : Given} {tape : List Operation} {scope : Scope} {first : ℕ} {entries : List Entry} {m : Members} {buffer : List ℕ} (work : Work) (course : Course) (ahead : PhasesLeft) (who : Who) (end : ℕ) (event : Event)
    → IsMoving tells given tape scope first entries m (bears work) work.resync course buffer (left_in work m course ahead)
    → IsCallGoing entries who → who.caller ≢ 254 → (tells → end ≡ length tape) → IsReplyInReshape work m course ahead event
    → IsMoving tells given tape scope first (entries ++ entries_of who end (event ∷ [])) m (bears work) work.resync course buffer (left_in work m course ahead)
answer-moves {tells = tells} {given = given} {tape = tape} {scope = scope} {first = first} {entries = entries} {m = m} {buffer = buffer} work course ahead who end (Stepped done left ended) was goes caller at_end reply =
    resting-moves tells given tape scope first entries m (bears work) work.resync course buffer (left_in work m course ahead) who end (Stepped done left ended) was goes (not_254 who.caller caller) at_end
    (quiet-reply done left ended (λ none. reply-left work course ahead was (sym reply.0 ∙ none))) (λ told is. reply.0)
    (λ t right. (keeps-left (left_in work m course ahead) entries (entry_of who end (Stepped done left ended)) [] left was.left_told reply.0, ended-right ended reply.1 t right))
  where
    by : (t : tells) → IsReliable (world_in given tape scope first) entries → (refusal : Refusal) → IsEndedInReshape work m refusal → IsRefusedRight (world_in given tape scope first) entries refusal
    by t right refusal (inl many) = refused-right (world_in given tape scope first) entries given m was.members_are.placed (was.gone t right) (was.levelled t right) refusal many
    by t right refusal (inr (inl unmended)) = unmended-right (world_in given tape scope first) entries given m work was.members_are.placed (was.gone t right) (was.pending t) refusal unmended
    by t right refusal (inr (inr fault)) = subst (λ (r : Refusal). IsRefusedRight (world_in given tape scope first) entries r) (sym fault) tt

    ended-right : (ended : Option Refusal) → MatchOption ended ⊤ (IsEndedInReshape work m) → (t : tells) → IsReliable (world_in given tape scope first) entries
        → IfSome ended (IsRefusedRight (world_in given tape scope first) entries)
    ended-right None why t right = tt
    ended-right (Some refusal) why t right = by t right refusal why
answer-moves work course ahead who end event was goes caller at_end reply = absurd reply

pub reply-keeps : (work : Work) (m : Members) (course : Course) (ahead : PhasesLeft) (who : Who) (end : ℕ) (event : Event) → IsReplyInReshape work m course ahead event → IsLengthKept (entries_of who end (event ∷ []))
reply-keeps work m course ahead who end (Stepped done left ended) reply = alone-keeps who end (Stepped done left ended) (λ n. refl) (λ limit. refl)
reply-keeps work m course ahead who end event reply = absurd reply

pub reply-lossless : (work : Work) (m : Members) (course : Course) (ahead : PhasesLeft) (Had : ℕ → ℕ → Type 0) (Was : ℕ → Type 0) (before after : ℕ → ℕ) (event : Event) → IsReplyInReshape work m course ahead event → IsLossBy Had Was before after event
reply-lossless work m course ahead Had Was before after (Stepped done left ended) reply = tt
reply-lossless work m course ahead Had Was before after event reply = absurd reply

-- ---- room

pub with-steps : {tells : Type 0} {given : Given} {tape : List Operation} {scope : Scope} {first : ℕ} {entries entries' : List Entry} {members : Members}
    {work : Work} {course : Course} {ahead : PhasesLeft} {limit : Option ℕ} {window : List ℕ} {steps steps' room room' rows buffer far_rows far_buffer : ℕ} {faults : ℕ → ℕ}
    → IsReady tells given tape scope first entries members work course ahead limit window faults steps room rows buffer far_rows far_buffer → entries' ≡ entries → 50 * steps' < room'
    → IsReady tells given tape scope first entries' members work course ahead limit window faults steps' room' rows buffer far_rows far_buffer
with-steps {tells = tells} {given = given} {tape = tape} {scope = scope} {first = first} {members = members} {work = work} {course = course} {ahead = ahead} {limit = limit} {window = window} {steps' = steps'} {room' = room'}
    {rows = rows} {buffer = buffer} {far_rows = far_rows} {far_buffer = far_buffer} {faults = faults} was same more =
    subst (λ (l : List Entry). IsReady tells given tape scope first l members work course ahead limit window faults steps' room' rows buffer far_rows far_buffer) (sym same) (record {
      kept = was.kept;
      sized = was.sized;
      limited = was.limited;
      full = was.full;
      planned = was.planned;
      wide = was.wide;
      failed = was.failed;
      dead = was.dead;
      room_left = more;
      rows_fit = was.rows_fit;
      buffer_fits = was.buffer_fits;
      far_rows_fit = was.far_rows_fit;
      far_buffer_fits = was.far_buffer_fits;
    })
