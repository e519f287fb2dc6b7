use Rattle.std.proofs.Common.{sym, ap, ◌∙◌, length}
use Rattle.stripe_cache.proofs.Whole.{same_length}
use Rattle.stripe_cache.proofs.key.Held.replace.Goals as goal

pub copy_from_slice-requires : goal.copy_from_slice-requires
copy_from_slice-requires c =
    ap (λ xs. length xs) c.as_mut_slice.ensures.value
    ∙ sym (same_length c.self.inside.bytes.items c.args.self.now.body _ c.self.invariant (ap (λ r. r.body) c.self.view_is) c.requires)
