-- A request to an array in a reshape is refused for that.
use Rattle.std.proofs.Common.{◌≡◌, ◌≢◌, ℕ, Bool, true, Option, List, [], ◌∷◌, ◌++◌, length, ◌∙◌}
use Rattle.std.specs.Prelude.{IsTrue}
use Rattle.array_reply_specs.specs.raid_types_the_Refusal_TheVariants.{Busy}
use Rattle.array_reply_specs.specs.raid_types_the_BusyKind_TheVariants.{Reshape}
use Rattle.array_reply_specs.specs.raid_types_the_Who.{Who}
use Rattle.array_reply_specs.specs.bank_the_Operation.{Operation}
use Rattle.array_reply_specs.specs.bank_Given.{Given}
use Rattle.array_transition.specs.sb_specs_the_Members.{Members}
use Rattle.array_transition.specs.sb_specs_Reading.{Scope, is_reshaping}
use Rattle.array_reply_specs.specs.history_the_Entry.{Entry}
use Rattle.array_reply_specs.specs.history_the_Event_TheVariants.{Refused}
use Rattle.array_reply_specs.specs.history_the_Request.{Request}
use Rattle.array_reply_specs.specs.history_the_Request_TheVariants.{Visible as AsksVisible, Grow as AsksGrow}
use Rattle.array_transition.specs.history_Fits.{IsBusy, Fits}
use Rattle.array_reply_specs.specs.history_Flat.{next_number}
use Rattle.array_transition.specs.history_Plain.{entries_of}
use Rattle.array_transition.specs.history_World.{World}
use Rattle.array_transition.proofs.history_OneShapeReplies.{where-asked}
use Rattle.array_transition.specs.reshape_request_Fitting.{IsReadLike}
use Rattle.array_transition.specs.history_invariant_Recorded.{entry_of}
use Rattle.array_transition.proofs.history_invariant_Records.{begins-going}
use Rattle.array_transition.specs.reshape_progress_the_Course.{Course}
use Rattle.array_transition.specs.array_reshaping_invariant_Moving.{IsMoving}
use Rattle.array_transition.proofs.array_reshaping_invariant_Refusals.{quiet-refusal}
use Rattle.array_transition.proofs.array_reshaping_invariant_Resting.{resting-moves}
use Rattle.array_transition.proofs.array_specs_Called.{not_254}
use Rattle.array_grow.specs.Planned.{IsReadWhereAsked, IsRefusedInReshape}
use Rattle.array_grow.proofs.Fitting.{where-is, reply-fits}

-- and it fits each request that a reshape refuses
pub busy-fits : (world : World) (before : List Entry) (who : Who) (end : ℕ) (request : Request) (m : Members) → IsRefusedInReshape request → who.number ≡ next_number who.caller before → end ≡ length world.tape
    → is_reshaping m.newest ≡ true → IsReadWhereAsked world before end m → Fits world before (entry_of who end (Refused (Busy Reshape))) request
busy-fits world before who end request m may number at_end active read = by request may
  where
    pending : IsBusy world before end Reshape
    pending = where-asked world before end (λ r. IsTrue (is_reshaping r.newest)) (λ r is asked. (where-is world before end (λ r. IsReadLike r m) read r is asked).array.reshaping ∙ active)

    by : (request : Request) → IsRefusedInReshape request → Fits world before (entry_of who end (Refused (Busy Reshape))) request
    by (AsksGrow wish) may = reply-fits world before who end (AsksGrow wish) (Refused (Busy Reshape)) number at_end pending
    by (AsksVisible limit) may = reply-fits world before who end (AsksVisible limit) (Refused (Busy Reshape)) number at_end pending
    by request may = absurd may

-- the array keeps its record behind it
pub busy-moves : {tells : Type 0} {given : Given} {tape : List Operation} {scope : Scope} {first : ℕ} {entries : List Entry} {m : Members} {carried : ℕ → ℕ → Bool} {resync : Option ℕ} {course : Course} {buffer : List ℕ} {left : ℕ} (who : Who) (end : ℕ)
    → IsMoving tells given tape scope first entries m carried resync course buffer left → who.number ≡ next_number who.caller entries → who.caller ≢ 254 → (tells → end ≡ length tape)
    → IsMoving tells given tape scope first (entries ++ entries_of who end (Refused (Busy Reshape) ∷ [])) m carried resync course buffer left
busy-moves {tells = tells} {given = given} {tape = tape} {scope = scope} {first = first} {entries = entries} {m = m} {carried = carried} {resync = resync} {course = course} {buffer = buffer} {left = left} who end was number caller at_end =
    resting-moves tells given tape scope first entries m carried resync course buffer left who end (Refused (Busy Reshape)) was (begins-going entries who number) (not_254 who.caller caller) at_end
    (quiet-refusal (Busy Reshape)) (λ told is. is) (λ t right. tt)
