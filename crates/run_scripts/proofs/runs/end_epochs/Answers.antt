use Rattle.std.proofs.Common.{rules, ◌<◌, List, length, ◌∙◌, ap}
use Rattle.history_reopen_laws.specs.history_the_Epoch.{Epoch}
use Rattle.run_session.specs.run_specs_Histories.{history_of, histories_of}
use Rattle.run_scripts.specs.Runs.{mark_behind}
use Rattle.run_scripts.proofs.Marks.{kept_set, ended_more}
use Rattle.run_scripts.proofs.runs.end_epochs.Goals as goal

pub loop-i-preserved : goal.loop-i-preserved
loop-i-preserved c =
    let items = c.loop-i.epochs.items in
    let was = c.loop-i.invariant in
    let same = c.set_last.ensures.same ∙ ap (λ (e : Epoch). history_of e) c.index_mut.ensures.value in
    let marked = c.set_last.ensures.last ∙ c.mark_behind-mark.ensures ∙ ap (λ (l : List Epoch). mark_behind c.args.ops (histories_of l) c.loop-i.i) c.as_slice.ensures.value in
    let within : c.loop-i.i < length c.loop-i.epochs.items = search rules in
    record {
      same = kept_set items c.loop-i.i c.set_last.new.epoch _ same ∙ was.same;
      ended = ended_more c.args.ops items c.loop-i.i c.set_last.new.epoch _ within same marked was.ended;
    }
