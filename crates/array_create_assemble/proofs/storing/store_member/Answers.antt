use Rattle.std.proofs.Common.{◌≡◌, ◌+◌, ◌<◌, ◌≤◌, Ok, Err, ◌++◌, [], ◌∷◌, ℕ, List, length, take, drop, refl, sym, ap, ◌∙◌, subst, arith, Some}
use Rattle.std.proofs.lemmas.List.{length-take-le}
use Rattle.bank.specs.declared.bank.Operation.{Operation}
use Rattle.bank.specs.declared.bank.Operation.TheVariants.{Write, Flush}
use Rattle.bank.specs.Given.{Given, IsPlace, HasCause}
use Rattle.bank.proofs.Causes.{cause_after_ok}
use Rattle.array_found_laws.specs.sb_codec_the_Sb.{Sb}
use Rattle.sb_add_spare.specs.stripe_row_Rows.{present}
use Rattle.array_create_assemble.specs.Filling.{IsMade}
use Rattle.array_create_assemble.proofs.FillLaws.{below-did, below-then, below-none, put-here, put-rows, put-done, stored-in, halves-in, second-read}
use Rattle.array_create_assemble.proofs.storing.store_member.Goals as goal

pub put_sector-requires-clause-size : goal.put_sector-requires-clause-size
put_sector-requires-clause-size g c = ap length c.first_sector.ensures ∙ length-take-le 512 c.prepare-stored.new.bytes (omega arith)

pub returns-in-Err-put_sector-clause-tape : goal.returns-in-Err-put_sector-clause-tape
returns-in-Err-put_sector-clause-tape g c = λ told.
    below-then (c.args.slot + 1) _ _ _ (below-none (c.args.slot + 1) _ _ (c.read.ensures.tape told))
    (below-did (c.args.slot + 1) _ _ _ (omega arith, tt) c.put_sector.ensures.did told)

pub returns-in-Ok-put_sector-clause-tape : goal.returns-in-Ok-put_sector-clause-tape
returns-in-Ok-put_sector-clause-tape g c = λ told.
    below-then (c.args.slot + 1) _ _ _ (below-none (c.args.slot + 1) _ _ (c.read.ensures.tape told))
    (below-did (c.args.slot + 1) _ _ _ (omega arith, tt) c.put_sector.ensures.did told)

pub returns-in-Ok-put_sector-clause-made : goal.returns-in-Ok-put_sector-clause-made
returns-in-Ok-put_sector-clause-made g c =
    subst (λ n. IsMade c.args.spec.now c.args.slot n c.prepare-stored.result)
    (c.len-sectors.ensures ∙ ap (λ (b : Given). b.sectors c.args.slot) c.read.ensures.given) c.prepare-stored.ensures.made

pub returns-in-Ok-put_sector-clause-stored : goal.returns-in-Ok-put_sector-clause-stored
returns-in-Ok-put_sector-clause-stored g c = λ told.
    let given : Given = g.B.Bank.given c.args.bank.now in
    let old : List Operation = g.B.Bank.tape c.args.bank.now in
    let new : List Operation = g.B.Bank.tape c.put_sector.new.bank in
    let bytes : List ℕ = c.prepare-stored.new.bytes in
    let did : new ≡ old ++ Write c.args.slot 8 c.first_sector.result.now ∷ Flush c.args.slot ∷ [] =
    c.in-Ok-put_sector.ensures.did.all told refl ∙ ap (λ (l : List Operation). l ++ Write c.args.slot 8 c.first_sector.result.now ∷ Flush c.args.slot ∷ []) (c.read.ensures.tape told) in
    let eighth : present given new c.args.slot 8 ≡ take 512 bytes =
    put-here given.start old new c.args.slot 8 c.first_sector.result.now did ∙ c.first_sector.ensures in
    let ninth : present given new c.args.slot 9 ≡ drop 512 c.read.new.into =
    put-rows given.start old new c.args.slot 8 c.first_sector.result.now did 9 (omega arith)
    ∙ second-read given old c.args.slot c.read.new.into (omega arith) (c.in-Ok.ensures.ok told) in
    record {
      there = stored-in (given.sectors c.args.slot) (present given new c.args.slot) bytes c.requires.room eighth (ninth ∙ sym c.prepare-stored.ensures.second_half) c.prepare-stored.ensures.valid
          ∙ ap (λ (sb : Sb). Some sb) (sym c.prepare-stored.ensures.fields);
      bytes = halves-in (present given new c.args.slot) bytes c.read.new.into (omega arith) (omega arith) c.prepare-stored.ensures.small eighth ninth;
    }

pub returns-in-Ok-put_sector-clause-rows : goal.returns-in-Ok-put_sector-clause-rows
returns-in-Ok-put_sector-clause-rows g c = λ told k other.
    let given : Given = g.B.Bank.given c.args.bank.now in
    let old : List Operation = g.B.Bank.tape c.args.bank.now in
    let new : List Operation = g.B.Bank.tape c.put_sector.new.bank in
    put-rows given.start old new c.args.slot 8 c.first_sector.result.now
    (c.in-Ok-put_sector.ensures.did.all told refl ∙ ap (λ (l : List Operation). l ++ Write c.args.slot 8 c.first_sector.result.now ∷ Flush c.args.slot ∷ []) (c.read.ensures.tape told))
    k other

pub returns-in-Ok-put_sector-clause-done : goal.returns-in-Ok-put_sector-clause-done
returns-in-Ok-put_sector-clause-done g c = λ told.
    let given : Given = g.B.Bank.given c.args.bank.now in
    let old : List Operation = g.B.Bank.tape c.args.bank.now in
    let new : List Operation = g.B.Bank.tape c.put_sector.new.bank in
    put-done given.start old new c.args.slot 8 c.first_sector.result.now
    (c.in-Ok-put_sector.ensures.did.all told refl ∙ ap (λ (l : List Operation). l ++ Write c.args.slot 8 c.first_sector.result.now ∷ Flush c.args.slot ∷ []) (c.read.ensures.tape told))

-- ---- what is asked

place-at : (given : Given) (slot : ℕ) → slot < given.slots → 10 ≤ given.sectors slot → IsPlace given slot 8 512
place-at given slot known room = record { known = known; some = omega arith; whole = refl; within = omega arith }

pub prepare-stored-requires-clause-long : goal.prepare-stored-requires-clause-long
prepare-stored-requires-clause-long g c = subst (λ (n : ℕ). c.args.spec.now.offset ≤ n) (sym (c.len-sectors.ensures ∙ ap (λ (b : Given). b.sectors c.args.slot) c.read.ensures.given)) c.requires.long

pub put_sector-requires-clause-place : goal.put_sector-requires-clause-place
put_sector-requires-clause-place g c = subst (λ (b : Given). IsPlace b c.args.slot 8 512) (sym c.read.ensures.given) (place-at (g.B.Bank.given c.args.bank.now) c.args.slot c.requires.slot c.requires.room)

-- ---- what failed

cause-err : {T E U : Type 0} {slot : ℕ} {a b : ℕ → ℕ} {fault : E} → HasCause {T = T} {E = E} slot a b (Err fault) → HasCause {T = U} {E = E} slot a b (Err fault)
cause-err was = record { never_falls = was.never_falls; others = was.others; failed = was.failed; stays_failed = was.stays_failed }

cause-ok : {T E U F : Type 0} {slot : ℕ} {a b : ℕ → ℕ} {x : T} {y : U} → HasCause {T = T} {E = E} slot a b (Ok x) → HasCause {T = U} {E = F} slot a b (Ok y)
cause-ok was = record { never_falls = was.never_falls; others = was.others; failed = was.failed; stays_failed = was.stays_failed }

pub returns-in-Err-clause-cause : goal.returns-in-Err-clause-cause
returns-in-Err-clause-cause g c = cause-err c.in-Err.ensures.cause

pub returns-in-Err-put_sector-clause-given : goal.returns-in-Err-put_sector-clause-given
returns-in-Err-put_sector-clause-given g c = c.put_sector.ensures.given ∙ c.read.ensures.given

pub returns-in-Err-put_sector-clause-cause : goal.returns-in-Err-put_sector-clause-cause
returns-in-Err-put_sector-clause-cause g c = cause-err (cause_after_ok c.args.slot _ _ _ _ _ c.in-Ok.ensures.cause c.in-Err-put_sector.ensures.cause)

pub returns-in-Ok-put_sector-clause-given : goal.returns-in-Ok-put_sector-clause-given
returns-in-Ok-put_sector-clause-given g c = c.put_sector.ensures.given ∙ c.read.ensures.given

pub returns-in-Ok-put_sector-clause-cause : goal.returns-in-Ok-put_sector-clause-cause
returns-in-Ok-put_sector-clause-cause g c = cause-ok (cause_after_ok c.args.slot _ _ _ _ _ c.in-Ok.ensures.cause c.in-Ok-put_sector.ensures.cause)
