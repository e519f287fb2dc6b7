use Rattle.std.proofs.Common.{◌≡◌, ◌≢◌, List, [], ◌∷◌, ◌++◌, rules, sym, subst}
use Rattle.std.specs.List.{All, AllPairs, Contains}
use Rattle.std.proofs.lemmas.List.Elements.{All-push}
use Rattle.tool_files.specs.declared.file_id.FileId.{FileId}
use Rattle.tool_files.proofs.ApartLaws.{apart_push}
use Rattle.tool_files.proofs.images.tell_apart.Goals as goal

pub loop-path-preserved : goal.loop-path-preserved
loop-path-preserved g c =
    let Apart : List FileId → Type 0 = λ files. AllPairs (λ one other. one ≢ other) files in
    let Free : List FileId → Type 0 = λ files. All (λ file. ¬ Contains c.args.taken.now file) files in
    let Other : List FileId → Type 0 = λ files. ¬ Contains files c.in-Ok.file in
    record {
      each = search rules;
      few = search rules;
      room = search rules;
      apart = subst Apart (sym c.push_reserved.ensures.items) (apart_push c.loop-path.files.items c.in-Ok.file c.loop-path.invariant.apart (subst Other c.deref.ensures.value c.in-Ok.ensures.another));
      free = subst Free (sym c.push_reserved.ensures.items) (All-push (λ file. ¬ Contains c.args.taken.now file) c.loop-path.files.items c.in-Ok.file c.loop-path.invariant.free c.in-Ok.ensures.free);
    }
