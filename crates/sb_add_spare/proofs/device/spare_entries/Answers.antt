use Rattle.std.proofs.Common.{◌≡◌, ◌++◌, ℕ, List, length, take, drop, ap, ◌∙◌, arith, append-nil}
use Rattle.std.proofs.lemmas.List.{length-drop, drop_all, drop_at, length-take-le}
use borrow.Rule.Slice.PartMut.{put_mid}
use Rattle.sb_add_spare.proofs.device.spare_entries.Goals as goal

-- behind the first 128 entries stand the given ones
joined : (entries second : List ℕ) → length second ≡ 256 → length entries ≡ 384 → put_mid 128 256 entries second ≡ take 128 entries ++ second
joined entries second long whole = ap (λ l. take 128 entries ++ l)
    (ap (λ l. second ++ l) (drop_all 256 (drop 128 entries) (omega (arith, whole, length-drop 128 entries))) ∙ append-nil second)

pub returns-clause-all : goal.returns-clause-all
returns-clause-all c = ap (λ l. put_mid 128 256 c.args.newest.now.dev_roles l) c.copy_from_slice.ensures.after
    ∙ joined c.args.newest.now.dev_roles c.args.second.now c.requires.second (omega arith)

pub returns-clause-last : goal.returns-clause-last
returns-clause-last c = ap (drop 128) (returns-clause-all c) ∙ drop_at (take 128 c.args.newest.now.dev_roles) c.args.second.now 128 (length-take-le 128 c.args.newest.now.dev_roles (omega arith))
