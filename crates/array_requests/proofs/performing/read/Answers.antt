use Rattle.std.proofs.Common.{◌≡◌, ◌*◌, ◌/◌, ℕ, List, length, drop, sym, ◌∙◌, ap, subst₂, arith}
use Rattle.std.proofs.lemmas.List.{take_at}
use Rattle.array_call_specs.specs.raid_types_Sectors.{Sector, IsWhole, sectors_of}
use Rattle.array_open.specs.sb_specs_Reading.{list_length}
use Rattle.history_append.specs.history_the_Event_TheVariants.{Read}
use Rattle.history_append.specs.history_the_Request_TheVariants.{Read as AsksRead}
use Rattle.array_open.specs.array_call_specs_Calls.{IsAnswered, IsEndOf}
use Rattle.array_reply_specs.proofs.Fitting.{fits-read}
use Rattle.array_requests.proofs.Plain.{IsCallAnswered, answered-so, told-answer}
use Rattle.array_requests.proofs.Told.{told-answered, read-told}
use Rattle.array_requests.proofs.GoneOn.{gone-none, plain-called, gone-answered}
use Rattle.array_requests.proofs.Arms.{told-unchanged}
use Rattle.array_requests.proofs.performing.read.Given.{Over}
use Rattle.array_requests.proofs.performing.read.Goals as goal
use Rattle.array_open.proofs.Handed.{ok-any}

sectors_in : (n len : ℕ) → len ≡ n * 512 → len / 512 ≡ n
sectors_in n len is = omega (arith, is)

entered : (g : Over) (c : goal.After-told g)
    → IsCallAnswered (list_length c.args.array.now.parts.members.newest) (AsksRead c.args.at c.args.count) c.args.who c.args.array.now.parts.entries c.read-answer.new.array.parts.entries (Read c.args.at c.from_bytes-body.result) c.read-answer.result
entered g c =
    let size = list_length c.args.array.now.parts.members.newest in
    let body : c.from_bytes-body.result ≡ sectors_of c.read-answer.new.into =
    c.from_bytes-body.ensures
    ∙ ap (λ (l : List ℕ). sectors_of l) (take_at c.read-answer.new.into (drop (length c.read-answer.new.into) c.in-Ok.into.items) c.in-Ok.into.len (c.read-answer.auto.into ∙ c.as_mut_slice.ensures.len)) in
    let count : length c.as_mut_slice.result.now / 512 ≡ c.args.count = sectors_in c.args.count (length c.as_mut_slice.result.now) (c.as_mut_slice.ensures.len ∙ c.in-Ok.ensures.len) in
    answered-so size (AsksRead c.args.at c.args.count) c.args.who c.args.array.now.parts.entries c.read-answer.new.array.parts.entries (Read c.args.at c.from_bytes-body.result) c.read-answer.result
    (λ before e fits. fits-read size before e c.args.at c.args.count fits)
    (subst₂ (λ (n : ℕ) (b : List Sector). IsAnswered size (AsksRead c.args.at n) c.args.who c.args.array.now.parts.entries c.read-answer.new.array.parts.entries (Read c.args.at b) c.read-answer.result)
    count (sym body) c.read-answer.ensures.answered)

pub returns-clause-replied : goal.returns-clause-replied
returns-clause-replied g c =
    told-answer (list_length c.args.array.now.parts.members.newest) (AsksRead c.args.at c.args.count) c.args.who c.args.array.now.parts.entries c.read-answer.new.array.parts.entries (Read c.args.at c.from_bytes-body.result) c.read-answer.result c.told.result c.told.ensures (entered g c)

pub returns-clause-went : goal.returns-clause-went
returns-clause-went g c =
    let old = c.args.array.now in
    let new = c.read-answer.new.array in
    let size = list_length old.parts.members.newest in
    let did = c.read-answer.ensures in
    let event = Read c.args.at c.from_bytes-body.result in
    gone-answered g.B.Bank.tells g.B.Bank.given g.B.Bank.tape g.B.Bank.faults_of old new size (AsksRead c.args.at c.args.count) c.args.who event c.read-answer.result (entered g c)
    (plain-called g.B.Bank.tells g.B.Bank.given g.B.Bank.tape g.B.Bank.faults_of old new did.called did.given did.active) did.called.spares
    (told-answered old.parts.backup (g.B.Bank.faults_of old.parts.bank) (g.B.Bank.faults_of new.parts.bank) size (AsksRead c.args.at c.args.count) c.args.who old.parts.entries new.parts.entries event c.read-answer.result
    (read-told old.parts.backup (g.B.Bank.faults_of old.parts.bank) (g.B.Bank.faults_of new.parts.bank) size c.args.at c.args.count event c.read-answer.result) (entered g c))

pub returns-in-Err-clause-went : goal.returns-in-Err-clause-went
returns-in-Err-clause-went g c = gone-none g.B.Bank.tells g.B.Bank.given g.B.Bank.tape g.B.Bank.faults_of c.args.array.now

pub returns-clause-unchanged : goal.returns-clause-unchanged
returns-clause-unchanged g c = told-unchanged (c.read-answer.new.array ≡ c.args.array.now) (Read c.args.at c.from_bytes-body.result) c.read-answer.result c.told.result c.told.ensures c.read-answer.ensures.unchanged

pub returns-clause-ended : goal.returns-clause-ended
returns-clause-ended g c = ok-any c.told.result (IsEndOf g.B.Bank.tells c.read-answer.new.array.parts.first c.read-answer.new.array.parts.entries (g.B.Bank.tape c.read-answer.new.array.parts.bank)) c.read-answer.ensures.called.ended

-- what was read is whole sectors
whole-of : (n : ℕ) (bytes into : List ℕ) → bytes ≡ into → length into ≡ n * 512 → IsWhole bytes
whole-of n bytes into same len = let long : length bytes ≡ n * 512 = ap (λ (l : List ℕ). length l) same ∙ len in omega (arith, long)

pub from_bytes-body-requires : goal.from_bytes-body-requires
from_bytes-body-requires g c =
    whole-of c.args.count _ c.read-answer.new.into
    (take_at c.read-answer.new.into (drop (length c.read-answer.new.into) c.in-Ok.into.items) c.in-Ok.into.len (c.read-answer.auto.into ∙ c.as_mut_slice.ensures.len))
    (c.read-answer.auto.into ∙ c.as_mut_slice.ensures.len ∙ c.in-Ok.ensures.len)
