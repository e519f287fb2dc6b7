use Rattle.std.proofs.Common.{sym, ap, ◌∙◌, length}
use Rattle.stripe_cache.proofs.Whole.{same_length}
use Rattle.stripe_cache.proofs.key.Held.copy_to.Goals as goal

pub copy_from_slice-requires : goal.copy_from_slice-requires
copy_from_slice-requires c =
    same_length c.self.inside.bytes.items c.args.self.now.body _ c.self.invariant (ap (λ r. r.body) c.self.view_is) c.requires
    ∙ sym (ap (λ xs. length xs) c.deref.ensures.value)
