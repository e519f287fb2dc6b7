use Rattle.std.proofs.Common.{◌++◌, [], refl, sym, ap, ap₂}
use Rattle.serve_greeting.specs.Answers.{reply, sizes_info, told}
use Rattle.serve_greeting.proofs.Pieces.{pushed_then, pushed_part}
use Rattle.serve_greeting.proofs.answers.push_told.Goals as goal

pub returns-in_err-push_reply-clause-pushed : goal.returns-in_err-push_reply-clause-pushed
returns-in_err-push_reply-clause-pushed g c =
    let option = c.args.option in
    let behind = reply option 3 sizes_info ++ reply option 1 [] in
    pushed_part g.K.Sink.tells (g.K.Sink.taken c.args.sink.now) (g.K.Sink.taken c.push_reply.new.sink) (told option c.args.size) (reply option 3 c.export_item.result) behind
    _ c.from_residual.result c.from_residual.ensures.0 (ap (λ l. reply option 3 l ++ behind) (sym c.export_item.ensures)) c.in_err-push_reply.ensures.pushed

pub returns-in_err-push_reply-2-clause-pushed : goal.returns-in_err-push_reply-2-clause-pushed
returns-in_err-push_reply-2-clause-pushed g c =
    let option = c.args.option in
    let behind = reply option 3 c.sizes_item.result ++ reply option 1 [] in
    pushed_then g.K.Sink.tells (g.K.Sink.taken c.args.sink.now) (g.K.Sink.taken c.push_reply.new.sink) (g.K.Sink.taken c.push_reply-2.new.sink) (told option c.args.size)
    (reply option 3 c.export_item.result) behind _ c.from_residual-in_err-push_reply-2.result (ap₂ (λ a b. reply option 3 a ++ (reply option 3 b ++ reply option 1 [])) (sym c.export_item.ensures) (sym c.sizes_item.ensures))
    c.in_ok-push_reply.ensures.pushed
    (pushed_part g.K.Sink.tells (g.K.Sink.taken c.push_reply.new.sink) (g.K.Sink.taken c.push_reply-2.new.sink) behind (reply option 3 c.sizes_item.result) (reply option 1 [])
    _ c.from_residual-in_err-push_reply-2.result c.from_residual-in_err-push_reply-2.ensures.0 refl c.in_err-push_reply-2.ensures.pushed)

pub returns-clause-pushed : goal.returns-clause-pushed
returns-clause-pushed g c =
    let option = c.args.option in
    let behind = reply option 3 c.sizes_item.result ++ reply option 1 [] in
    pushed_then g.K.Sink.tells (g.K.Sink.taken c.args.sink.now) (g.K.Sink.taken c.push_reply.new.sink) (g.K.Sink.taken c.push_reply-3.new.sink) (told option c.args.size)
    (reply option 3 c.export_item.result) behind _ c.push_reply-3.result
    (ap₂ (λ a b. reply option 3 a ++ (reply option 3 b ++ reply option 1 [])) (sym c.export_item.ensures) (sym c.sizes_item.ensures)) c.in_ok-push_reply.ensures.pushed
    (pushed_then g.K.Sink.tells (g.K.Sink.taken c.push_reply.new.sink) (g.K.Sink.taken c.push_reply-2.new.sink) (g.K.Sink.taken c.push_reply-3.new.sink) behind
    (reply option 3 c.sizes_item.result) (reply option 1 []) _ c.push_reply-3.result refl c.in_ok-push_reply-2.ensures.pushed c.push_reply-3.ensures.pushed)
