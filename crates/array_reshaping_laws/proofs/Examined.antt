-- What an array in a reshape keeps over a bank of which only counts of faults have risen.
use Rattle.std.proofs.Common.{◌≡◌, ℕ, ◌≤◌, Bool, List, Option, sym, subst, arith}
use Rattle.std.specs.Prelude.{unwrap_or}
use Rattle.reshape_window_backup.specs.bank_Given.{Given}
use Rattle.reshape_window_backup.specs.bank_the_Operation.{Operation}
use Rattle.array_reshaping_resync_laws.specs.sb_specs_the_Members.{Members}
use Rattle.array_reshaping_resync_laws.specs.sb_specs_Reading.{Scope}
use Rattle.array_reshaping_resync_laws.specs.history_the_Entry.{Entry}
use Rattle.array_reshaping_resync_laws.specs.array_members_the_Work.{Work}
use Rattle.array_fixed_laws.specs.array_call_specs_Kept.{scope_in}
use Rattle.array_reshaping_resync_laws.specs.reshape_request_the_PhasesLeft.{PhasesLeft}
use Rattle.array_reshaping_resync_laws.specs.reshape_progress_the_Course.{Course}
use Rattle.array_reshaping_resync_laws.specs.array_reshaping_invariant_Moving.{IsMoving}
use Rattle.array_reshaping_laws.specs.Ready.{IsReady}

-- nothing was written
pub moving-still : {tells : Type 0} {given : Given} {tape tape' : List Operation} {scope : Scope} {first : ℕ} {entries : List Entry} {members : Members} {carried : ℕ → ℕ → Bool} {resync : Option ℕ} {course : Course} {buffer : List ℕ} {left : ℕ}
    → (tells → tape' ≡ tape) → IsMoving tells given tape scope first entries members carried resync course buffer left → IsMoving tells given tape' scope first entries members carried resync course buffer left
moving-still {tells = tells} {given = given} {tape' = tape'} {scope = scope} {first = first} {entries = entries} {members = members} {carried = carried} {resync = resync} {course = course} {buffer = buffer} {left = left} same was = record {
  slots = was.slots;
  members_are = was.members_are;
  course_is = was.course_is;
  sizes_are = was.sizes_are;
  left_told = was.left_told;
  progress = was.progress;
  beside = was.beside;
  pending = λ t. (there t).pending t;
  dirty = was.dirty;
  levelled = λ t. (there t).levelled t;
  gone = λ t. (there t).gone t;
  unclean = λ t. (there t).unclean t;
  recorded = λ t. (there t).recorded t;
  stored = λ t. (there t).stored t;
  listed = λ t. (there t).listed t;
  safe = λ t. (there t).safe t;
  last_step = λ t. (there t).last_step t;
}
  where
    there : tells → IsMoving tells given tape' scope first entries members carried resync course buffer left
    there t = subst (λ (l : List Operation). IsMoving tells given l scope first entries members carried resync course buffer left) (sym (same t)) was

pub ready-still : {tells : Type 0} {given given' : Given} {tape tape' : List Operation} {uuid : List ℕ} {slots : ℕ} {backup : Option ℕ} {first : ℕ} {entries : List Entry} {members : Members} {work : Work} {course : Course}
    {ahead : PhasesLeft} {limit : Option ℕ} {window : List ℕ} {faults faults' : ℕ → ℕ} {steps room rows buffer far_rows far_buffer : ℕ} → given' ≡ given → (tells → tape' ≡ tape) → ((s : ℕ) → faults s ≤ faults' s)
    → IsReady tells given tape (scope_in given uuid slots backup) first entries members work course ahead limit window faults steps room rows buffer far_rows far_buffer
    → IsReady tells given' tape' (scope_in given' uuid slots backup) first entries members work course ahead limit window faults' steps room rows buffer far_rows far_buffer
ready-still {tells = tells} {given = given} {tape' = tape'} {uuid = uuid} {slots = slots} {backup = backup} {first = first} {entries = entries} {members = members} {work = work} {course = course} {ahead = ahead} {limit = limit} {window = window}
    {faults = faults} {faults' = faults'} {steps = steps} {room = room} {rows = rows} {buffer = buffer} {far_rows = far_rows} {far_buffer = far_buffer} known same rose was =
    subst (λ (g : Given). IsReady tells g tape' (scope_in g uuid slots backup) first entries members work course ahead limit window faults' steps room rows buffer far_rows far_buffer) (sym known) (record {
      kept = moving-still same was.kept;
      sized = was.sized;
      limited = was.limited;
      full = λ t. (there t).full t;
      planned = was.planned;
      wide = was.wide;
      failed = λ slot lt lost. let before = was.failed slot lt lost in let more = rose slot in omega (arith, before, more);
      dead = λ span is. let before = was.dead span is in let more = rose (unwrap_or backup 0) in omega (arith, before, more);
      room_left = was.room_left;
      rows_fit = was.rows_fit;
      buffer_fits = was.buffer_fits;
      far_rows_fit = was.far_rows_fit;
      far_buffer_fits = was.far_buffer_fits;
    })
  where
    there : tells → IsReady tells given tape' (scope_in given uuid slots backup) first entries members work course ahead limit window faults steps room rows buffer far_rows far_buffer
    there t = subst (λ (l : List Operation). IsReady tells given l (scope_in given uuid slots backup) first entries members work course ahead limit window faults steps room rows buffer far_rows far_buffer) (sym (same t)) was
