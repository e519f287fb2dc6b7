use Rattle.std.proofs.Common.{◌≡◌, ◌+◌, ◌≤◌, ◌/◌, min, ℕ, Option, List, length, Result, Err, sym, ◌∙◌, ap, subst, arith}
use Rattle.std.specs.Option.{option_map_or}
use Rattle.array_call_specs.specs.raid_types_Sectors.{Sector, sectors_of}
use Rattle.array_call_specs.proofs.raid_types_SectorLaws.{length-sectors_of}
use Rattle.array_call_specs.specs.raid_types_the_Fault.{Fault}
use Rattle.array_call_specs.specs.raid_types_the_Fault_TheVariants.{Refused as IsRefusedWith}
use Rattle.array_call_specs.specs.raid_types_the_Refusal.{Refusal}
use Rattle.array_call_specs.specs.raid_types_the_Refusal_TheVariants.{BackupFault}
use Rattle.bank.specs.Given.{IsFaulted}
use Rattle.array_open.specs.sb_specs_the_Members.{Members}
use Rattle.array_open.specs.sb_specs_Reading.{list_length}
use Rattle.history_append.specs.history_the_Entry.{Entry}
use Rattle.history_append.specs.history_the_Event_TheVariants.{Wrote}
use Rattle.history_append.specs.history_the_Request_TheVariants.{Write as AsksWrite}
use Rattle.history_append.specs.history_Flat.{length_of, limit_of, visible_of}
use Rattle.array_open.specs.array_call_specs_Calls.{IsCausedBy, IsEndOf}
use Rattle.array_open.specs.array_specs_Parts.{visible_in}
use Rattle.array_open.specs.array_Calls.{IsWriteLackedIn}
use Rattle.array_open.specs.array_reshaping_laws_Writing.{IsWriteReplied}
use Rattle.array_requests.proofs.Plain.{IsCallAnswered, answered-written, told-answer}
use Rattle.array_requests.proofs.Told.{told-answered, write-told, backup-failed}
use Rattle.array_requests.proofs.GoneOn.{plain-called, gone-answered}
use Rattle.array_requests.proofs.Arms.{told-unchanged}
use Rattle.array_requests.proofs.performing.write.Given.{Over}
use Rattle.array_requests.proofs.performing.write.Goals as goal
use Rattle.array_open.proofs.Handed.{ok-any}

count_in : (bytes : List ℕ) (body : List Sector) → sectors_of bytes ≡ body → length bytes / 512 ≡ length body
count_in bytes body is = sym (length-sectors_of bytes) ∙ ap (λ (l : List Sector). length l) is

-- a write that was refused for the backup doesn't go past the end
within : {T : Type 0} (size to : ℕ) (why : Members → Refusal → Type 0) (old new : Members) (result : Result T Fault) → IsCausedBy size to why old new result → result ≡ Err (IsRefusedWith BackupFault) → to ≤ size
within {T = T} size to why old new result caused is = (subst (λ (x : Result T Fault). IsCausedBy size to why old new x) is caused).0

-- as much can be read and written as the entries tell
all-visible : (size : ℕ) (limit : Option ℕ) (entries : List Entry) → length_of size entries ≡ size → limit_of entries ≡ limit → visible_of size entries ≡ option_map_or (λ most. min most size) limit size
all-visible size limit entries sized limited i = option_map_or (λ most. min most (sized i)) (limited i) (sized i)

pub write-answer-requires-clause-some : goal.write-answer-requires-clause-some
write-answer-requires-clause-some g c = let count = count_in c.as_bytes.result.now c.args.body c.as_bytes.ensures.sectors in omega (arith, count, c.requires.askable.0)

pub write-answer-requires-clause-few : goal.write-answer-requires-clause-few
write-answer-requires-clause-few g c = let count = count_in c.as_bytes.result.now c.args.body c.as_bytes.ensures.sectors in omega (arith, count, c.requires.askable.1)

pub write-answer-requires-clause-short : goal.write-answer-requires-clause-short
write-answer-requires-clause-short g c = let count = count_in c.as_bytes.result.now c.args.body c.as_bytes.ensures.sectors in omega (arith, count, c.requires.askable.2)

entered : (g : Over) (c : goal.After-told g)
    → IsCallAnswered (list_length c.args.array.now.parts.members.newest) (AsksWrite c.args.at c.args.body) c.args.who c.args.array.now.parts.entries c.write-answer.new.array.parts.entries (Wrote c.args.at c.args.body) c.write-answer.result
entered g c =
    let old = c.args.array.now in
    let size = list_length old.parts.members.newest in
    let tells = c.tells_sizes.ensures in
    let count = count_in c.as_bytes.result.now c.args.body c.as_bytes.ensures.sectors in
    answered-written size c.args.at c.args.body c.args.who old.parts.entries c.write-answer.new.array.parts.entries c.write-answer.result c.requires.next
    (λ is. let upto = within (visible_in old) (c.args.at + length c.as_bytes.result.now / 512) (IsWriteLackedIn old c.args.at (length c.as_bytes.result.now / 512)) old.parts.members c.write-answer.new.array.parts.members c.write-answer.result c.write-answer.ensures.caused is in
    let all = all-visible size old.limit old.parts.entries tells.sized tells.limited in
    omega (arith, upto, count, all))
    (subst (λ (b : List Sector). IsWriteReplied size c.args.at b c.args.who old.parts.entries c.write-answer.new.array.parts.entries c.write-answer.result) c.as_bytes.ensures.sectors c.write-answer.ensures.answered)

pub returns-clause-replied : goal.returns-clause-replied
returns-clause-replied g c =
    told-answer (list_length c.args.array.now.parts.members.newest) (AsksWrite c.args.at c.args.body) c.args.who c.args.array.now.parts.entries c.write-answer.new.array.parts.entries (Wrote c.args.at c.args.body) c.write-answer.result c.told.result c.told.ensures (entered g c)

pub returns-clause-went : goal.returns-clause-went
returns-clause-went g c =
    let old = c.args.array.now in
    let new = c.write-answer.new.array in
    let size = list_length old.parts.members.newest in
    let did = c.write-answer.ensures in
    let before = g.B.Bank.faults_of old.parts.bank in
    let now = g.B.Bank.faults_of new.parts.bank in
    gone-answered g.B.Bank.tells g.B.Bank.given g.B.Bank.tape g.B.Bank.faults_of old new size (AsksWrite c.args.at c.args.body) c.args.who (Wrote c.args.at c.args.body) c.write-answer.result (entered g c)
    (plain-called g.B.Bank.tells g.B.Bank.given g.B.Bank.tape g.B.Bank.faults_of old new did.called did.given did.active) did.called.spares
    (told-answered old.parts.backup before now size (AsksWrite c.args.at c.args.body) c.args.who old.parts.entries new.parts.entries (Wrote c.args.at c.args.body) c.write-answer.result
    (write-told old.parts.backup before now size c.args.at c.args.body c.write-answer.result
    (λ barred. backup-failed old.parts.backup (λ slot. IsFaulted slot before now) (did.backed (did.barred barred)) (did.backup barred)))
    (entered g c))

pub returns-clause-unchanged : goal.returns-clause-unchanged
returns-clause-unchanged g c = told-unchanged (c.write-answer.new.array ≡ c.args.array.now) (Wrote c.args.at c.args.body) c.write-answer.result c.told.result c.told.ensures c.write-answer.ensures.unchanged

pub returns-clause-ended : goal.returns-clause-ended
returns-clause-ended g c = ok-any c.told.result (IsEndOf g.B.Bank.tells c.write-answer.new.array.parts.first c.write-answer.new.array.parts.entries (g.B.Bank.tape c.write-answer.new.array.parts.bank)) c.write-answer.ensures.called.ended
