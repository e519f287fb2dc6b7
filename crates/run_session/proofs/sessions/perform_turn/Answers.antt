use Rattle.std.proofs.Common.{◌≢◌, ℕ, List, [], ◌∷◌, inl, inr, take, drop, refl, sym, subst, arith}
use Rattle.std.specs.List.{All}
use Rattle.std.proofs.lemmas.List.Elements.{All-head}
use Rattle.run_blocks.specs.script_the_Numbered.{Numbered}
use Rattle.std.proofs.Math.ListN.{get_or}
use Rattle.std.specs.Prelude.{IsTrue}
use Rattle.std.proofs.lemmas.List.{length-take-le}
use Rattle.run_blocks.specs.script_Script.{are_in_turn}
use Rattle.run_blocks.specs.script_the_Lane_TheVariants.{Script as InScript}
use Rattle.run_session.specs.Sessions.{IsBlock}
use Rattle.run_session.proofs.BlockReplies.{past-end, begins, behind-first, first-alone, block-some, block-lanes}
use Rattle.run_session.proofs.sessions.perform_turn.Goals as goal

pub returns-in-Script-clause-turns : goal.returns-in-Script-clause-turns
returns-in-Script-clause-turns g c = behind-first c.args.lines.now past-end c.requires.some c.in-Script.is c.requires.turns

pub returns-in-Script-clause-step : goal.returns-in-Script-clause-step
returns-in-Script-clause-step g c =
    inl record { numbered = get_or c.args.lines.now 0 past-end; is = first-alone c.args.lines.now past-end c.requires.some; script = c.in-Script.is; step = c.perform_line.ensures.step }

pub returns-in-Script-clause-alerts : goal.returns-in-Script-clause-alerts
returns-in-Script-clause-alerts g c =
    let first = get_or c.args.lines.now 0 past-end in
    let alone = first-alone c.args.lines.now past-end c.requires.some in
    record {
      alone = λ line is script. c.perform_line.ensures.alerts;
      block = λ block. absurd (All-head (λ line. line.lane ≢ InScript) first [] (block-lanes (first ∷ []) (subst (λ (ls : List Numbered). IsBlock ls) alone block)) c.in-Script.is);
    }

pub perform_block-requires-clause-block : goal.perform_block-requires-clause-block
perform_block-requires-clause-block g c κs lives =
    let begun = begins c.args.lines.now past-end c.requires.some c.in_default.not-Script c.requires.turns in
    subst (λ (n : ℕ). IsBlock (take n c.args.lines.now)) (sym c.block_length-count.ensures.count) begun.block

pub returns-in_default : goal.returns-in_default
returns-in_default g c =
    let lines = c.args.lines.now in
    let count = c.block_length-count.result in
    let begun = begins lines past-end c.requires.some c.in_default.not-Script c.requires.turns in
    let did = c.perform_block.ensures in
    let long = length-take-le count lines c.block_length-count.ensures.within in
    let many = block-some (take count lines) did.step.block in
    record {
      some = omega (arith, long, many);
      within = c.block_length-count.ensures.within;
      turns = subst (λ (n : ℕ). IsTrue (are_in_turn InScript (drop n lines))) (sym c.block_length-count.ensures.count) begun.turns;
      room = did.room;
      former = did.former;
      alerts = record {
        alone = λ line is script. absurd (All-head (λ line. line.lane ≢ InScript) line [] (subst (λ (ls : List Numbered). All (λ line. line.lane ≢ InScript) ls) is (block-lanes (take count lines) did.step.block)) script);
        block = λ block. refl;
      };
      step = inr did.step;
      cause = did.cause;
      sink_never_falls = did.sink_never_falls;
      never_falls = did.never_falls;
      grows = did.grows;
      given = did.given;
    }
