use Rattle.std.proofs.Common.{rules, ◌≡◌, ℕ, ◌+◌, ◌<◌, ◌≤◌, List, [], ◌++◌, refl, length-append, vec_capacity, length, take, drop, ap, ◌-◌, length-drop, slice_index_or, arith}
use Rattle.std.proofs.lemmas.List.{take_all}
use Rattle.script.specs.Looks.{kind_seen}
use Rattle.script.specs.Texts.{run_text, runs_text}
use Rattle.script.proofs.RunLaws.{run_written}
use Rattle.script.proofs.reply.push_runs.Goals as goal

pub loop-start-preserved : goal.loop-start-preserved
loop-start-preserved c =
    let sectors = c.args.sectors.now in
    let start = c.loop-start.start in
    let found = c.first_run-look.result in
    let rest = take (length sectors - start) (drop start sectors) in
    let e : rest ≡ drop start sectors = take_all (length sectors - start) (drop start sectors) (omega (arith, length-drop start sectors)) in
    let within : found.1 ≤ length rest = c.first_run-look.ensures.within in
    record {
      within = omega (arith, length-drop start sectors, within, ap length e);
      whole =
          run_written c.loop-start.text.items c.push_run.new.text.items _ c.args.at start found.1
          (kind_seen found.0 (slice_index_or rest 0 [])) sectors rest e
          c.loop-start.invariant.whole c.first_run-look.ensures.run c.in_ok-push_run.ensures.appended.whole;
      room = omega (arith, c.loop-start.invariant.room, c.in_ok-push_run.ensures.appended.room);
      few = omega (arith, c.loop-start.invariant.few, c.in_ok-push_run.ensures.short.few, c.first_run-look.ensures.some);
    }

pub returns-in_err-push_run-clause-appended : goal.returns-in_err-push_run-clause-appended
returns-in_err-push_run-clause-appended c =
    let sectors = c.args.sectors.now in
    let start = c.loop-start.start in
    let found = c.first_run-look.result in
    let text = c.loop-start.text.items in
    let rest = take (length sectors - start) (drop start sectors) in
    let e : rest ≡ drop start sectors = take_all (length sectors - start) (drop start sectors) (omega (arith, length-drop start sectors)) in
    let run : List ℕ = run_text (kind_seen found.0 (slice_index_or rest 0 []), found.1) in
    let told = run_written text (text ++ run) _ c.args.at start found.1 (kind_seen found.0 (slice_index_or rest 0 [])) sectors rest e
    c.loop-start.invariant.whole c.first_run-look.ensures.run refl in
    record {
      whole = search rules;
      full =
          let less : vec_capacity c.args.text.now < length (c.args.text.now.items ++ runs_text c.args.at sectors) =
          omega (
            arith,
            c.loop-start.invariant.room,
            c.in_err-push_run.ensures.appended.full,
            ap length told,
            length-append (text ++ run) (runs_text (c.args.at + (start + found.1)) (drop (start + found.1) sectors)),
          ) in
          search (rules, less);
      room = omega (arith, c.loop-start.invariant.room, c.in_err-push_run.ensures.appended.room);
    }
