-- The epochs of the arrays that ran before, over the bank of their run.
use Rattle.std.specs.Prelude.{◌≡◌, ℕ, ◌≤◌, List, [], ◌∷◌, length, Option, ⊤}
use Rattle.std.specs.List.{All}
use Rattle.array_requests.specs.bank_Given.{Given}
use Rattle.array_requests.specs.bank_the_Operation.{Operation}
use Rattle.script.specs.history_the_Epoch.{Epoch}
use Rattle.script.specs.history_Epochs.{world_of, IsEpochRight, HasRoomForEvents}
use Rattle.script.specs.history_Legal.{IsLegal}
use Rattle.script.specs.history_CrashSafe.{IsCrashSafe}
use Rattle.script.specs.history_Growing.{EndBy}
use Rattle.script.specs.history_Reopened.{OpensAccepted}
use Rattle.script.specs.history_Reshaped.{IsReshaped}
use Rattle.script.specs.history_Sound.{OpensFit, FillsRight, StaysSound}
use Rattle.array_requests.specs.history_invariant_laws_Reliable.{IsReliable}
use Rattle.array_requests.specs.array_specs_Calls.{IsEpochKept}
use Rattle.array_requests.specs.array_specs_Plans.{KeepsShape}
use Rattle.array_requests.specs.array_fixed_laws_Plain.{IsPlainEpoch}
use Rattle.array_requests.specs.array_call_specs_Calls.{IsEndOf}
use Rattle.array_requests.specs.array_members_Parts.{Parts}
use Rattle.run_specs.specs.declared.states.State.{State}
use Rattle.run_specs.specs.declared.states.State.TheVariants.{Idle, Running}
use Rattle.run_specs.specs.Histories.{History, histories_of}
use Rattle.run_specs.specs.Making.{world_at, AreHeldSince}
use Rattle.run_specs.specs.States.{running_history}

-- A fact of an epoch whose history can be relied on: it opened sound, or takes no role's holder away, takes no level over and opened with no reshape but one on its course, so that what is filled in for a
-- missing role is right; and it had room for its events.
abbrev pub IfReliable : Given → List Operation → Option ℕ → Epoch → Type 0 → Type 0
IfReliable given tape backup epoch fact = IsReliable (world_of given tape backup epoch) epoch.entries.items → fact

-- A fact of an epoch of an array that kept its shape: its opening found no reshape, and its entries tell neither a plan nor a reshape.
abbrev pub IfShapeKept : Given → List Operation → Option ℕ → Epoch → Type 0 → Type 0
IfShapeKept given tape backup epoch fact = KeepsShape (world_of given tape backup epoch) epoch.entries.items → fact

-- A fact of an epoch in which no role is told lost, or which opened sound, so that what is filled in for a missing role is right, and which
-- had room for its events.
abbrev pub IfFilledRight : Given → List Operation → Option ℕ → Epoch → Type 0 → Type 0
IfFilledRight given tape backup epoch fact =
    FillsRight (world_of given tape backup epoch) epoch.entries.items → HasRoomForEvents (world_of given tape backup epoch) → fact

-- The epoch begins, and each of its entries ends, within the tape, and what its opening found was refused for nothing. Where its history can be relied
-- on, it is legal, and if it opened sound, each reshape of it ends right. Where the array kept its shape, its history is legal as one of one shape, if no role is
-- told lost in it or it opened sound, and no refusal of a reshape is told.
pub record IsLegalEpoch (given : Given) (tape : List Operation) (backup : Option ℕ) (epoch : Epoch) : Type 0 where
  pub begun : epoch.first ≤ length tape
  pub accepted : OpensAccepted (world_of given tape backup epoch)
  pub ends : EndBy (length tape) epoch.entries.items
  pub legal : IfReliable given tape backup epoch (IsLegal (world_of given tape backup epoch) epoch.entries.items)
  pub reshaped : IfReliable given tape backup epoch (OpensFit (world_of given tape backup epoch) → IsReshaped (world_of given tape backup epoch) epoch.entries.items)
  pub plain : IfShapeKept given tape backup epoch (IsPlainEpoch given tape backup epoch)

abbrev pub AreLegal : Given → List Operation → Option ℕ → List Epoch → Type 0
AreLegal given tape backup epochs = All (λ epoch. IsLegalEpoch given tape backup epoch) epochs

-- Where its history can be relied on, an epoch is right, also where members were lost in it: it lies within the tape, is legal, safe at each of its marks, stays sound,
-- and, if it opened sound, each reshape of it ends right. Where the array kept its shape, it is so, and no reshape ends wrong, if what was filled in is right.
pub record IsRightEpoch (given : Given) (tape : List Operation) (backup : Option ℕ) (epoch : Epoch) : Type 0 where
  pub kept : IfReliable given tape backup epoch (IsEpochKept given tape backup epoch)
  pub plain : IfShapeKept given tape backup epoch (IfFilledRight given tape backup epoch (IsEpochRight given tape backup epoch))

abbrev pub AreRight : Given → List Operation → Option ℕ → List Epoch → Type 0
AreRight given tape backup epochs = All (λ epoch. IsRightEpoch given tape backup epoch) epochs

-- Such an epoch is safe at each mark up to the tape's end, and stays sound, as far as nothing but flushes was done behind it.
abbrev pub IsSafeEpoch : Given → List Operation → Option ℕ → Epoch → Type 0
IsSafeEpoch given tape backup epoch =
    IfReliable given tape backup epoch
    (IsCrashSafe (world_of given tape backup epoch) (length tape) epoch.entries.items × StaysSound (world_of given tape backup epoch) (length tape) epoch.entries.items)

abbrev pub AreSafe : Given → List Operation → Option ℕ → List Epoch → Type 0
AreSafe given tape backup epochs = All (λ epoch. IsSafeEpoch given tape backup epoch) epochs

-- the first mark of these histories, or the one behind them
abbrev pub next_mark : ℕ → List History → ℕ
next_mark behind [] = behind
next_mark behind (history ∷ histories) = history.first

-- each history begins, and each of its entries ends, by the first mark of the next one, and those of the last by this mark
abbrev pub AreRising : ℕ → List History → Type 0
AreRising behind [] = ⊤
AreRising behind (history ∷ histories) =
    ((history.first ≤ next_mark behind histories) × EndBy (next_mark behind histories) history.entries) × AreRising behind histories

-- what is kept of the arrays that ran before, up to a mark
pub record AreFormer (given : Given) (tape : List Operation) (backup : Option ℕ) (mark : ℕ) (epochs : List Epoch) : Type 0 where
  pub legal : AreLegal given tape backup epochs
  pub safe : AreSafe given tape backup epochs
  pub rising : AreRising mark (histories_of epochs)

-- and of the one that runs: it has the backup of the run, began behind those, what its opening found was refused for nothing, its roles
-- are where they were then, or on slots that were spares, and the tape stands where its last entry ended
pub record IsGoing {B : Type 0} (tells : Type 0) (given : Given) (tape : List Operation) (backup : Option ℕ) (array : Parts B) (epochs : List Epoch) : Type 0 where
  pub backup_is : array.backup ≡ backup
  pub former : tells → AreFormer given tape backup array.first epochs
  pub begun : tells → array.first ≤ length tape
  pub accepted : tells → OpensAccepted (world_at given tape backup (running_history array))
  pub held : tells → AreHeldSince (world_at given tape backup (running_history array)) array.entries array.members
  pub ended : IsEndOf tells array.first array.entries tape

abbrev pub IsRunKept : {B : Type 0} → Type 0 → Given → List Operation → Option ℕ → State B → Type 0
IsRunKept tells given tape backup (Idle bank epochs) = tells → AreFormer given tape backup (length tape) epochs.items
IsRunKept tells given tape backup (Running array epochs) = IsGoing tells given tape backup array.parts epochs.items
