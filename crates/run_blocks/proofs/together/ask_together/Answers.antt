use Rattle.std.proofs.Common.{ℕ, inl, inr, ◌≤◌, ◌^◌, List, [], ◌∷◌, length, drop, refl, sym, ap, subst, arith, append-nil}
use Rattle.std.proofs.Math.Seq.{drop-append_seam}
use Rattle.std.specs.List.{All}
use Rattle.std.proofs.lemmas.List.Elements.{All-get_or}
use Rattle.script_status.specs.history_the_Entry.{Entry}
use Rattle.script_status.specs.history_the_Request.{Request}
use Rattle.lane_shared.specs.history_caller_laws_Callers.{RepliesFrom}
use Rattle.run_line_answers.specs.array_Calls.{running_left}
use Rattle.run_line_answers.specs.run_specs_Blocks.{IsBlockEntered}
use Rattle.run_line_answers.specs.array_requests_Replies.{IsAskable}
use Rattle.run_line_answers.proofs.array_requests_GoneOn.{gone-none, gone-same}
use Rattle.run_blocks.proofs.BlockAsks.{all-askable, lane-run, worker-run, block-entered}
use Rattle.run_blocks.proofs.together.ask_together.Goals as goal

pub returns-in_default-clause-went : goal.returns-in_default-clause-went
returns-in_default-clause-went g c = gone-none g.B.Bank.tells g.B.Bank.given g.B.Bank.tape g.B.Bank.faults_of c.args.array

pub returns-in_default-requests_of-clause-went : goal.returns-in_default-requests_of-clause-went
returns-in_default-requests_of-clause-went g c = gone-none g.B.Bank.tells g.B.Bank.given g.B.Bank.tape g.B.Bank.faults_of c.args.array

pub run_block-requires-clause-askable : goal.run_block-requires-clause-askable
run_block-requires-clause-askable g c κs within = (
  λ k d lt. All-get_or IsAskable c.in-Ok.one.items k d lt (subst (λ (l : List Request). All IsAskable l) (sym c.in-Ok.ensures) (all-askable c.args.first.now c.requires.limits.0 c.requires.lanes.0)),
  λ k d lt. All-get_or IsAskable c.in-Ok-requests_of.two.items k d lt (subst (λ (l : List Request). All IsAskable l) (sym c.in-Ok-requests_of.ensures) (all-askable c.args.second.now c.requires.limits.1 c.requires.lanes.1)),
)

pub returns-in-Err-clause-went : goal.returns-in-Err-clause-went
returns-in-Err-clause-went g c = gone-same g.B.Bank.tells g.B.Bank.given g.B.Bank.tape g.B.Bank.faults_of c.args.array c.in-Err.array c.in-Err.ensures.back

pub returns-clause-first : goal.returns-clause-first
returns-clause-first g c =
    let few : length c.in-Ok-run_block.joined.array.parts.entries ≤ 2 ^ 61 = let same = ap (λ (l : List Entry). length l) c.epoch.ensures.entries in omega (arith, same, c.if-len.false, c.len.ensures) in
    lane-run c.args.array c.in-Ok-run_block.joined.array few 1 c.args.first.now c.in-Ok.one.items c.in-Ok-run_block.joined.first.items c.in-Ok.ensures c.in-Ok-run_block.ensures.first

pub returns-clause-second : goal.returns-clause-second
returns-clause-second g c =
    let few : length c.in-Ok-run_block.joined.array.parts.entries ≤ 2 ^ 61 = let same = ap (λ (l : List Entry). length l) c.epoch.ensures.entries in omega (arith, same, c.if-len.false, c.len.ensures) in
    lane-run c.args.array c.in-Ok-run_block.joined.array few 2 c.args.second.now c.in-Ok-requests_of.two.items c.in-Ok-run_block.joined.second.items c.in-Ok-requests_of.ensures c.in-Ok-run_block.ensures.second

pub returns-clause-worked : goal.returns-clause-worked
returns-clause-worked g c =
    let few : length c.in-Ok-run_block.joined.array.parts.entries ≤ 2 ^ 61 = let same = ap (λ (l : List Entry). length l) c.epoch.ensures.entries in omega (arith, same, c.if-len.false, c.len.ensures) in
    worker-run c.args.array c.in-Ok-run_block.joined.array few 255 _ (running_left c.args.array) c.in-Ok-run_block.joined.worked c.in-Ok-run_block.ensures.worked

pub returns-clause-entered : goal.returns-clause-entered
returns-clause-entered g c = block-entered c.args.array c.in-Ok-run_block.joined.array c.in-Ok-run_block.ensures.entered c.in-Ok-run_block.ensures.others

pub returns-in-Err-clause-back : goal.returns-in-Err-clause-back
returns-in-Err-clause-back g c = inl c.in-Err.ensures.back

pub returns-then-len-clause-back : goal.returns-then-len-clause-back
returns-then-len-clause-back g c = inr (let same = ap (λ (l : List Entry). length l) c.epoch.ensures.entries in omega (arith, same, c.if-len.true, c.len.ensures))

pub returns-in_default-clause-back : goal.returns-in_default-clause-back
returns-in_default-clause-back g c = inl refl

pub returns-in_default-requests_of-clause-back : goal.returns-in_default-requests_of-clause-back
returns-in_default-requests_of-clause-back g c = inl refl

-- no reply stands behind all entries
nothing-later : (mark : ℕ) (entries : List Entry) → RepliesFrom mark (drop (length entries) entries)
nothing-later mark [] = tt
nothing-later mark (e ∷ entries) = nothing-later mark entries

pub returns-in_default-clause-later : goal.returns-in_default-clause-later
returns-in_default-clause-later g c = λ t. nothing-later (length (g.B.Bank.tape c.args.array.parts.bank)) c.args.array.parts.entries

pub returns-in_default-requests_of-clause-later : goal.returns-in_default-requests_of-clause-later
returns-in_default-requests_of-clause-later g c = λ t. nothing-later (length (g.B.Bank.tape c.args.array.parts.bank)) c.args.array.parts.entries

pub returns-in-Err-clause-later : goal.returns-in-Err-clause-later
returns-in-Err-clause-later g c = λ t.
    subst (λ a. RepliesFrom (length (g.B.Bank.tape c.args.array.parts.bank)) (drop (length c.args.array.parts.entries) a.parts.entries)) (sym c.in-Err.ensures.back)
    (nothing-later (length (g.B.Bank.tape c.args.array.parts.bank)) c.args.array.parts.entries)

pub returns-then-len-clause-entered : goal.returns-then-len-clause-entered
returns-then-len-clause-entered g c = block-entered c.args.array c.in-Ok-run_block.joined.array c.in-Ok-run_block.ensures.entered c.in-Ok-run_block.ensures.others

-- nothing was entered
none-entered : (entries : List Entry) → IsBlockEntered entries entries
none-entered entries = record { more = []; grown = sym (append-nil entries); calls = λ k d lt. absurd (omega (arith, lt)); callers = λ k d lt. absurd (omega (arith, lt)); going = λ k d lt. absurd (omega (arith, lt)) }

pub returns-in-Err-clause-entered : goal.returns-in-Err-clause-entered
returns-in-Err-clause-entered g c = subst (λ a. IsBlockEntered c.args.array.parts.entries a.parts.entries) (sym c.in-Err.ensures.back) (none-entered c.args.array.parts.entries)

pub returns-clause-later : goal.returns-clause-later
returns-clause-later g c = λ t.
    let seen = c.in-Ok-run_block.ensures.later.before in
    let old = c.args.array.parts.entries in
    subst (λ (l : List Entry). RepliesFrom (length (g.B.Bank.tape c.args.array.parts.bank)) (drop (length old) l)) (sym seen.begins.entries.1)
    (subst (RepliesFrom (length (g.B.Bank.tape c.args.array.parts.bank))) (sym (drop-append_seam old seen.begins.entries.0)) (seen.later t))
