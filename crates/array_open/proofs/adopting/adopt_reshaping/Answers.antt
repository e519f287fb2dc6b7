use Rattle.std.proofs.Common.{◌≡◌, ◌≢◌, ◌++◌, ℕ, ◌<◌, ◌≤◌, inl, inr, List, length, take, take_all, drop, refl, sym, ◌∙◌, ap, subst, arith}
use Rattle.std.proofs.lemmas.List.{take-append-le}
use Rattle.array_create_assemble.specs.bank_the_Operation.{Operation}
use Rattle.array_create_assemble.specs.bank_Given.{Given}
use Rattle.array_create_assemble.specs.bank_Whole.{HasWholeSectors}
use Rattle.array_create_assemble.specs.array_members_Flushing.{OnlyItsSlotsFail}
use Rattle.array_steps.specs.array_reshaping_laws_Ready.{bytes_in}
use Rattle.array_reshaping_open_laws.specs.array_open_window_Finding.{bytes_for}
use Rattle.array_reshaping_open_laws.specs.Opening.{IsOpenedMoving}
use Rattle.array_reshaping_open_laws.proofs.Members.{fit-here}
use Rattle.array_reshaping_open_laws.proofs.Opens.{found-windows-open}
use Rattle.array_open.specs.Adopted.{IsMovingAdopted}
use Rattle.array_open.proofs.Ready.{same-bytes}
use Rattle.array_open.proofs.Same.{opened-same, adopted-same}
use Rattle.array_open.proofs.adopting.adopt_reshaping.Goals as goal

-- the buffer is what was written to it
written-whole : (n : ℕ) (bytes written : List ℕ) → length written ≡ length bytes → n ≡ length bytes → take n (written ++ drop (length written) bytes) ≡ written
written-whole n bytes written len ok = take-append-le n written (drop (length written) bytes) (omega (arith, len, ok)) ∙ take_all n written (omega (arith, len, ok))

-- only the backup's count may rise
backup-fails : (bank : Given) (backup : ℕ) (before after : ℕ → ℕ) → backup < bank.slots → ((s : ℕ) → before s ≤ after s) → ((s : ℕ) → s ≢ backup → after s ≡ before s) → OnlyItsSlotsFail bank before after
backup-fails bank backup before after known falls others = record {
  never_falls = falls;
  others = λ s past. others s (λ same. absurd (omega (arith, same, past, known)));
}

pub longest_window-requires : goal.longest_window-requires
longest_window-requires g c =
    let are = c.requires.opened in
    record { fit = fit-here (g.B.Bank.given c.args.bank) c.args.given c.args.backup c.args.members are.elected are.aside are.active are.backed }

pub find_window-requires-clause-fit : goal.find_window-requires-clause-fit
find_window-requires-clause-fit g c =
    let are = c.requires.opened in
    fit-here (g.B.Bank.given c.args.bank) c.args.given c.args.backup c.args.members are.elected are.aside are.active are.backed

pub returns-in-Err-find_window-clause-left_counts : goal.returns-in-Err-find_window-clause-left_counts
returns-in-Err-find_window-clause-left_counts g c =
    backup-fails (g.B.Bank.given c.args.bank) c.args.backup (g.B.Bank.faults_of c.args.bank) (g.B.Bank.faults_of c.find_window.new.bank) c.requires.slot c.find_window.ensures.never_falls c.find_window.ensures.others

pub begin_moving-array-requires-clause-opened : goal.begin_moving-array-requires-clause-opened
begin_moving-array-requires-clause-opened g c =
    let tells = g.B.Bank.tells in
    let bank : Given = g.B.Bank.given c.args.bank in
    let tape : List Operation = g.B.Bank.tape c.args.bank in
    let tape' : List Operation = g.B.Bank.tape c.find_window.new.bank in
    let found = c.in-Ok-find_window.found in
    let buffer = c.find_window.new.buffer in
    let did = c.in-Ok-find_window.ensures in
    let whole = λ (t : tells). subst (λ (l : List Operation). HasWholeSectors bank l) (did.tape t) (subst (λ (b : Given). HasWholeSectors b tape') did.given (c.ops-first.ensures.whole t)) in
    let opened = found-windows-open tells bank tape c.args.given c.args.backup c.args.members found buffer c.requires.opened whole did.window did.found did.sectors in
    subst (λ (b : Given). IsOpenedMoving tells b tape' c.args.given c.args.backup c.args.members found
    (bytes_in found (take c.in-Ok-zeros.window.len (buffer ++ drop (length buffer) c.in-Ok-zeros.window.items)))) (sym did.given)
    (subst (λ (l : List ℕ). IsOpenedMoving tells bank tape' c.args.given c.args.backup c.args.members found (bytes_in found l))
    (sym (written-whole c.in-Ok-zeros.window.len c.in-Ok-zeros.window.items buffer (omega (arith, did.long, c.deref_mut.ensures.len, c.in-Ok-zeros.window.ok.0)) c.in-Ok-zeros.window.ok.0))
    (subst (λ (l : List ℕ). IsOpenedMoving tells bank tape' c.args.given c.args.backup c.args.members found l) (same-bytes found buffer)
    (opened-same bank tape tape' c.args.given c.args.backup c.args.members found (bytes_for found buffer) did.tape opened)))

pub begin_moving-array-requires-clause-failed : goal.begin_moving-array-requires-clause-failed
begin_moving-array-requires-clause-failed g c slot known none =
    let did = c.in-Ok-find_window.ensures in
    let was = c.requires.failed slot (omega (arith, known, ap (λ (b : Given). b.slots) did.given)) none in
    let rose = did.never_falls slot in
    omega (arith, was, rose)

pub returns-clause-adopted : goal.returns-clause-adopted
returns-clause-adopted g c =
    let tells = g.B.Bank.tells in
    let tape : List Operation = g.B.Bank.tape c.args.bank in
    let tape' : List Operation = g.B.Bank.tape c.find_window.new.bank in
    let did = c.in-Ok-find_window.ensures in
    subst (λ (b : Given). IsMovingAdopted tells b tape c.args.given c.args.backup c.args.members c.begin_moving-array.result) did.given
    (adopted-same (g.B.Bank.given c.find_window.new.bank) tape' tape c.args.given c.args.backup c.args.members c.begin_moving-array.result (λ t. sym (did.tape t)) c.begin_moving-array.ensures.adopted)

pub returns-clause-counts : goal.returns-clause-counts
returns-clause-counts g c =
    subst (λ b. OnlyItsSlotsFail (g.B.Bank.given c.args.bank) (g.B.Bank.faults_of c.args.bank) (g.B.Bank.faults_of b)) (sym c.begin_moving-array.ensures.bank)
    (backup-fails (g.B.Bank.given c.args.bank) c.args.backup (g.B.Bank.faults_of c.args.bank) (g.B.Bank.faults_of c.find_window.new.bank) c.requires.slot
    c.in-Ok-find_window.ensures.never_falls c.in-Ok-find_window.ensures.others)

pub begin_moving-array-requires-clause-wide : goal.begin_moving-array-requires-clause-wide
begin_moving-array-requires-clause-wide g c =
    let buffer = c.find_window.new.buffer in
    let did = c.in-Ok-find_window.ensures in
    let same = ap (λ (l : List ℕ). length l) (written-whole c.in-Ok-zeros.window.len c.in-Ok-zeros.window.items buffer (omega (arith, did.long, c.deref_mut.ensures.len, c.in-Ok-zeros.window.ok.0)) c.in-Ok-zeros.window.ok.0) in
    omega (arith, same, did.long, c.deref_mut.ensures.len, c.in-Ok-zeros.ensures.len, c.in-Ok-zeros.window.ok.0, c.longest_window.ensures.reach)

pub returns-in-Err-find_window-clause-refused : goal.returns-in-Err-find_window-clause-refused
returns-in-Err-find_window-clause-refused g c = inr (refl, c.in-Err-find_window.ensures.failed)

pub returns-in-Err-find_window-clause-left_given : goal.returns-in-Err-find_window-clause-left_given
returns-in-Err-find_window-clause-left_given g c = c.find_window.ensures.given

pub returns-in-Err-zeros-clause-refused : goal.returns-in-Err-zeros-clause-refused
returns-in-Err-zeros-clause-refused g c = inl (c.in-Err-zeros.ensures.no_memory, refl)

pub returns-in-Err-room_for-clause-refused : goal.returns-in-Err-room_for-clause-refused
returns-in-Err-room_for-clause-refused g c = inl (refl, refl)

pub begin_moving-array-requires-clause-buffer : goal.begin_moving-array-requires-clause-buffer
begin_moving-array-requires-clause-buffer g c = c.in-Ok.ensures.buffer

pub begin_moving-array-requires-clause-empty : goal.begin_moving-array-requires-clause-empty
begin_moving-array-requires-clause-empty g c = c.in-Ok.ensures.empty

pub begin_moving-array-requires-clause-room : goal.begin_moving-array-requires-clause-room
begin_moving-array-requires-clause-room g c = c.in-Ok.ensures.entries

pub begin_moving-array-requires-clause-rows : goal.begin_moving-array-requires-clause-rows
begin_moving-array-requires-clause-rows g c = c.in-Ok.ensures.rows

pub begin_moving-array-requires-clause-first : goal.begin_moving-array-requires-clause-first
begin_moving-array-requires-clause-first g c = c.ops-first.ensures.count

pub begin_moving-array-requires-clause-far_buffer : goal.begin_moving-array-requires-clause-far_buffer
begin_moving-array-requires-clause-far_buffer g c = c.in-Ok-room_for.ensures.buffer
