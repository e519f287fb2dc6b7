use Rattle.std.proofs.Common.{refl, ◌≡◌, ◌*◌, ◌/◌, ℕ, List, length, ◌∙◌, subst, arith, ap}
use Rattle.run_specs.specs.raid_types_Sectors.{sectors_of}
use Rattle.run_specs.specs.history_the_Entry.{Entry}
use Rattle.run_specs.specs.history_the_Event_TheVariants.{Read}
use Rattle.run_specs.specs.history_the_Request_TheVariants.{Read as AsksRead}
use Rattle.run_specs.specs.history_OneShape.{OneShapeFits}
use Rattle.run_specs.specs.sb_specs_Reading.{list_length}
use Rattle.run_specs.specs.script_the_Line_TheVariants.{Read as ReadLine}
use Rattle.run_specs.proofs.AskLaws.{on_no_memory, grew, asked_at, answered_reply, answered_none}
use Rattle.run_requests.proofs.Sizes.{sized-answered, sized-none}
use Rattle.run_requests.proofs.Called.{called-length}
use Rattle.run_specs.proofs.Told.{told_none, told_answered, read_told}
use Rattle.run_specs.specs.array_reply_specs_Replies.{RunningFits}
use Rattle.run_specs.proofs.array_reply_specs_Fitting.{fits-read}
use Rattle.run_specs.specs.Caused.{record_of}
use Rattle.run_specs.specs.Records.{IsLeftAt}
use Rattle.run_specs.specs.reshape_request_Left.{phases_of}
use Rattle.run_specs.specs.reshape_request_the_PhasesLeft.{PhasesLeft}
use Rattle.run_specs.proofs.Turned.{told-same, told-still, asked-unstepped, asked-told}
use Rattle.run_requests.proofs.Lefts.{left-called, left-read}
use Rattle.run_requests.proofs.asks.ask_read.Goals as goal

sectors_in : (n len : ℕ) → len ≡ n * 512 → len / 512 ≡ n
sectors_in n len is = omega (arith, is)

pub returns-then-wants_memory-clause-asked : goal.returns-then-wants_memory-clause-asked
returns-then-wants_memory-clause-asked g c =
    answered_none (list_length c.args.array.now.parts.members.newest) (AsksRead c.args.at (length c.as_mut_slice.result.now / 512)) c.script_call-who.result c.args.array.now.parts.entries c.read-answer.new.array.parts.entries (Read c.args.at (sectors_of c.read-answer.new.into)) c.read-answer.result
    c.read-answer.ensures.answered (c.wants_memory.ensures.yes c.if-wants_memory.true)

pub last_place-requires : goal.last_place-requires
last_place-requires g c =
    grew (answered_reply (list_length c.args.array.now.parts.members.newest) (AsksRead c.args.at (length c.as_mut_slice.result.now / 512)) c.script_call-who.result c.args.array.now.parts.entries c.read-answer.new.array.parts.entries (Read c.args.at (sectors_of c.read-answer.new.into)) c.read-answer.result
    c.read-answer.ensures.answered (c.wants_memory.ensures.no c.if-wants_memory.false)).1

pub returns-clause-asked : goal.returns-clause-asked
returns-clause-asked g c =
    let size = list_length c.args.array.now.parts.members.newest in
    let count : length c.as_mut_slice.result.now / 512 ≡ c.args.count = sectors_in c.args.count (length c.as_mut_slice.result.now) (c.as_mut_slice.ensures.len ∙ c.in-Ok.ensures.len) in
    let was = answered_reply size (AsksRead c.args.at (length c.as_mut_slice.result.now / 512)) c.script_call-who.result c.args.array.now.parts.entries c.read-answer.new.array.parts.entries (Read c.args.at (sectors_of c.read-answer.new.into)) c.read-answer.result
    c.read-answer.ensures.answered (c.wants_memory.ensures.no c.if-wants_memory.false) in
    asked_at (ReadLine c.args.at c.args.count) c.last_place.result was.1
    (λ (before : List Entry) (e : Entry) (fits : OneShapeFits size before e (AsksRead c.args.at (length c.as_mut_slice.result.now / 512))). subst (λ (n : ℕ). RunningFits size before e (AsksRead c.args.at n)) count (fits-read size before e c.args.at (length c.as_mut_slice.result.now / 512) fits)) c.script_call-who.ensures c.last_place.ensures

pub returns-then-wants_memory-clause-unchanged : goal.returns-then-wants_memory-clause-unchanged
returns-then-wants_memory-clause-unchanged g c = on_no_memory c.read-answer.result c.read-answer.ensures.unchanged (c.wants_memory.ensures.yes c.if-wants_memory.true)

pub returns-then-wants_memory-clause-told : goal.returns-then-wants_memory-clause-told
returns-then-wants_memory-clause-told g c =
    told_answered c.args.array.now.parts.backup (g.B.Bank.faults_of c.args.array.now.parts.bank) (g.B.Bank.faults_of c.read-answer.new.array.parts.bank) (list_length c.args.array.now.parts.members.newest) (AsksRead c.args.at (length c.as_mut_slice.result.now / 512)) c.script_call-who.result (Read c.args.at (sectors_of c.read-answer.new.into)) c.read-answer.result (read_told c.args.array.now.parts.backup (g.B.Bank.faults_of c.args.array.now.parts.bank) (g.B.Bank.faults_of c.read-answer.new.array.parts.bank) c.args.at (length c.as_mut_slice.result.now / 512)) c.read-answer.ensures.answered

pub returns-then-wants_memory-clause-sized : goal.returns-then-wants_memory-clause-sized
returns-then-wants_memory-clause-sized g c =
    sized-answered (list_length c.args.array.now.parts.members.newest) (AsksRead c.args.at (length c.as_mut_slice.result.now / 512)) c.script_call-who.result (Read c.args.at (sectors_of c.read-answer.new.into)) c.read-answer.result (called-length c.read-answer.ensures.called) (λ n. refl) c.read-answer.ensures.answered

pub returns-clause-told : goal.returns-clause-told
returns-clause-told g c =
    told_answered c.args.array.now.parts.backup (g.B.Bank.faults_of c.args.array.now.parts.bank) (g.B.Bank.faults_of c.read-answer.new.array.parts.bank) (list_length c.args.array.now.parts.members.newest) (AsksRead c.args.at (length c.as_mut_slice.result.now / 512)) c.script_call-who.result (Read c.args.at (sectors_of c.read-answer.new.into)) c.read-answer.result (read_told c.args.array.now.parts.backup (g.B.Bank.faults_of c.args.array.now.parts.bank) (g.B.Bank.faults_of c.read-answer.new.array.parts.bank) c.args.at (length c.as_mut_slice.result.now / 512)) c.read-answer.ensures.answered

pub returns-clause-sized : goal.returns-clause-sized
returns-clause-sized g c =
    sized-answered (list_length c.args.array.now.parts.members.newest) (AsksRead c.args.at (length c.as_mut_slice.result.now / 512)) c.script_call-who.result (Read c.args.at (sectors_of c.read-answer.new.into)) c.read-answer.result (called-length c.read-answer.ensures.called) (λ n. refl) c.read-answer.ensures.answered

pub returns-in-Err-clause-told : goal.returns-in-Err-clause-told
returns-in-Err-clause-told g c = told_none c.args.array.now.parts.backup (g.B.Bank.faults_of c.args.array.now.parts.bank) (g.B.Bank.faults_of c.args.array.now.parts.bank) refl

pub returns-in-Err-clause-sized : goal.returns-in-Err-clause-sized
returns-in-Err-clause-sized g c = sized-none refl refl

pub returns-then-wants_memory-clause-turning : goal.returns-then-wants_memory-clause-turning
returns-then-wants_memory-clause-turning g c =
    told-still (on_no_memory c.read-answer.result c.read-answer.ensures.unchanged (c.wants_memory.ensures.yes c.if-wants_memory.true)) c.requires.turning

pub returns-clause-turning : goal.returns-clause-turning
returns-clause-turning g c =
    let asked = returns-clause-asked g c in
    told-same asked (asked-unstepped (AsksRead c.args.at c.args.count) (ReadLine c.args.at c.args.count) asked refl (λ fits. fits)) c.read-answer.ensures.active (ap (λ (p : PhasesLeft). phases_of p) c.read-answer.ensures.called.same.ahead) c.requires.turning

pub returns-clause-tellable : goal.returns-clause-tellable
returns-clause-tellable g c = asked-told (AsksRead c.args.at c.args.count) (ReadLine c.args.at c.args.count) (returns-clause-asked g c) refl refl (λ fits. fits)

pub returns-clause-left : goal.returns-clause-left
returns-clause-left g c =
    let old = c.args.array.now in
    let new = c.read-answer.new.array in
    let did = c.read-answer.ensures in
    let count : length c.as_mut_slice.result.now / 512 ≡ c.args.count = sectors_in c.args.count (length c.as_mut_slice.result.now) (c.as_mut_slice.ensures.len ∙ c.in-Ok.ensures.len) in
    subst (λ (n : ℕ). IsLeftAt (g.B.Bank.faults_of old.parts.bank) (g.B.Bank.faults_of new.parts.bank) (record_of old) (record_of new) (ReadLine c.args.at n) new.parts.entries c.last_place.result) count
    (left-read (g.B.Bank.faults_of old.parts.bank) (g.B.Bank.faults_of new.parts.bank) old new c.script_call-who.result c.last_place.result c.last_place.ensures (list_length old.parts.members.newest) (left-called did.called did.active did.failed)
    c.args.at (length c.as_mut_slice.result.now / 512) (sectors_of c.read-answer.new.into) c.read-answer.result did.answered did.caused (c.wants_memory.ensures.no c.if-wants_memory.false))
