-- What an opening finds of an array in a reshape is ready for its calls.
use Rattle.std.proofs.Common.{◌≡◌, ℕ, ◌*◌, ◌<◌, ◌≤◌, false, List, length, Some, None, refl, sym, ◌∙◌, ap, subst, arith}
use Rattle.array_create_assemble.specs.raid_types_Shapes.{has_slot}
use Rattle.array_create_assemble.specs.bank_the_Operation.{Operation}
use Rattle.array_create_assemble.specs.bank_Given.{Given}
use Rattle.array_create_assemble.specs.sb_specs_the_Members.{Members}
use Rattle.array_create_assemble.specs.sb_specs_Reading.{Scope, list_length, role_count}
use Rattle.array_steps.specs.stripe_row_Rows.{reading_of, members_without}
use Rattle.array_create_assemble.specs.history_the_Entry.{Entry}
use Rattle.array_create_assemble.specs.history_Stands.{reach_of}
use Rattle.array_create_assemble.specs.array_members_the_Work.{Work}
use Rattle.array_create_assemble.specs.array_members_Numbers.{bears}
use Rattle.array_create_assemble.specs.array_members_Placed.{AreWhole}
use Rattle.array_steps.specs.array_call_specs_Kept.{scope_in}
use Rattle.array_steps.specs.array_call_specs_Adopting.{opener}
use Rattle.array_steps.proofs.array_call_laws_AdoptingLaws.{found-kept}
use Rattle.array_steps.specs.history_invariant_Safe.{world_in, TakesNone}
use Rattle.array_reshaping_open_laws.specs.reshape_request_the_PhasesLeft.{PhasesLeft}
use Rattle.array_reshaping_open_laws.specs.reshape_request_the_Window.{Window}
use Rattle.array_steps.specs.array_reshaping_state_Due.{unsure_in}
use Rattle.array_reshaping_open_laws.specs.reshape_request_the_Window_TheVariants.{Closed, Entered, Unsure}
use Rattle.array_steps.proofs.array_fixed_invariant_Whole.{whole-told}
use Rattle.array_steps.specs.array_specs_Parts.{left_in}
use Rattle.array_steps.specs.array_reshaping_laws_Ready.{bytes_in, IsReady}
use Rattle.array_reshaping_open_laws.specs.array_open_window_Finding.{bytes_for}
use Rattle.array_reshaping_open_laws.specs.array_open_window_Recovering.{AreRecovering}
use Rattle.array_reshaping_open_laws.specs.Opening.{scope_of, IsOpenedMoving, opening_entries, AreAmong, found_course}
use Rattle.array_reshaping_open_laws.proofs.Losses.{all-gone, no-limit, same-length}
use Rattle.array_reshaping_open_laws.proofs.Opens.{openings-move}
use Rattle.array_open.specs.Adopted.{moving_work}

-- no plan is behind the reshape
abbrev pub planless : PhasesLeft
planless = record { next = None; last = None }

-- the window's bytes are those that were found
pub same-bytes : (window : Window) (buffer : List ℕ) → bytes_for window buffer ≡ bytes_in window buffer
same-bytes Closed buffer = refl
same-bytes (Entered span copied sectioned) buffer = refl
same-bytes (Unsure span) buffer = refl

module _ {tells : Type 0} {bank : Given} {tape : List Operation} {given backup : ℕ} {former : Members} {window : Window} (bytes : List ℕ)
    (opened : IsOpenedMoving tells bank tape given backup former window (bytes_in window bytes)) (lost : ℕ) (recovering : AreRecovering former lost) (own : length former.own ≡ 32)
    (first : ℕ) (first_is : tells → first ≡ length tape) where
  abbrev m : Members
  m = members_without lost former

  -- the number of each superblock is known
  among : AreAmong (bears (moving_work (members_without lost former))) former
  among slot sb is = found-kept former.own slot sb own is

  -- no role is missing where none is told lost
  whole : TakesNone (world_in bank tape (scope_of bank given backup former) first) (opening_entries first (members_without lost former)) → AreWhole (members_without lost former)
  whole none =
      whole-told (world_in bank tape (scope_of bank given backup former) first) (opening_entries first (members_without lost former)) (members_without lost former) none
      (λ role lt miss. all-gone opener first (reading_of m) (role_count former.newest) (world_in bank tape (scope_of bank given backup former) first) role lt miss)

  pub found-ready : {faults : ℕ → ℕ} {room rows buffer far_rows far_buffer : ℕ} → unsure_in window ≡ None → ((slot : ℕ) → slot < bank.slots → has_slot given slot ≡ false → 0 < faults slot) → 512 * reach_of former.newest ≤ length bytes
      → 1 ≤ room → 128 ≤ rows → 1048576 ≤ buffer → 128 ≤ far_rows → 1048576 ≤ far_buffer
      → IsReady tells bank tape (scope_in bank former.newest.set_uuid given (Some backup)) first (opening_entries first (members_without lost former)) (members_without lost former)
      (moving_work (members_without lost former)) (found_course window) planless None bytes faults 0 room rows buffer far_rows far_buffer
  found-ready sure failed wide room_left rows_fit buffer_fits far_rows_fit far_buffer_fits = record {
    kept = openings-move tells bank tape given backup lost first (left_in (moving_work m) m (found_course window) planless) former window (bytes_in window bytes) (bears (moving_work m)) opened recovering among first_is;
    sized = same-length opener first (reading_of m) (role_count former.newest) (list_length former.newest);
    limited = no-limit opener first (reading_of m) (role_count former.newest);
    full = λ t. whole;
    planned = tt;
    wide = wide;
    dead = λ span is. absurd (let both = sym (ap unsure_in is) ∙ sure in cc);
    failed = failed;
    room_left = omega (arith, room_left);
    rows_fit = rows_fit;
    buffer_fits = buffer_fits;
    far_rows_fit = far_rows_fit;
    far_buffer_fits = far_buffer_fits;
  }

  -- so it is by what the code has of it
  pub ready-by : {faults : ℕ → ℕ} {room rows buffer far_rows far_buffer : ℕ} {scope : Scope} {first' : ℕ} {entries : List Entry} {members : Members} {work : Work}
      → scope ≡ scope_in bank former.newest.set_uuid given (Some backup) → first' ≡ first → entries ≡ opening_entries first (members_without lost former) → members ≡ members_without lost former
      → work ≡ moving_work (members_without lost former) → unsure_in window ≡ None → ((slot : ℕ) → slot < bank.slots → has_slot given slot ≡ false → 0 < faults slot) → 512 * reach_of former.newest ≤ length bytes
      → 1 ≤ room → 128 ≤ rows → 1048576 ≤ buffer → 128 ≤ far_rows → 1048576 ≤ far_buffer
      → IsReady tells bank tape scope first' entries members work (found_course window) planless None bytes faults 0 room rows buffer far_rows far_buffer
  ready-by {faults = faults} {room = room} {rows = rows} {buffer = buffer} {far_rows = far_rows} {far_buffer = far_buffer} {scope = scope} {first' = first'} {entries = entries} {members = members} {work = work}
      scope_is first_same entries_are members_are work_is sure failed wide room_left rows_fit buffer_fits far_rows_fit far_buffer_fits =
      subst (λ (s : Scope). IsReady tells bank tape s first' entries members work (found_course window) planless None bytes faults 0 room rows buffer far_rows far_buffer) (sym scope_is)
      (subst (λ (n : ℕ). IsReady tells bank tape at n entries members work (found_course window) planless None bytes faults 0 room rows buffer far_rows far_buffer) (sym first_same)
      (subst (λ (l : List Entry). IsReady tells bank tape at first l members work (found_course window) planless None bytes faults 0 room rows buffer far_rows far_buffer) (sym entries_are)
      (subst (λ (k : Members). IsReady tells bank tape at first (opening_entries first (members_without lost former)) k work (found_course window) planless None bytes faults 0 room rows buffer far_rows far_buffer) (sym members_are)
      (subst (λ (w : Work). IsReady tells bank tape at first (opening_entries first (members_without lost former)) (members_without lost former) w (found_course window) planless None bytes faults 0 room rows buffer far_rows far_buffer)
      (sym work_is) (found-ready sure failed wide room_left rows_fit buffer_fits far_rows_fit far_buffer_fits)))))
    where
      at : Scope
      at = scope_in bank former.newest.set_uuid given (Some backup)
