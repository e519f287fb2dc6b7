use Rattle.std.proofs.Common.{◌≡◌, ◌-◌, inr, ◌∙◌, ap, arith}
use Rattle.array_reshaping_steps.specs.raid_types_the_Refusal_TheVariants.{NeedSpares}
use Rattle.array_reshaping_steps.specs.raid_types_the_Shape.{Shape}
use Rattle.array_reshaping_steps.specs.sb_specs_Reading.{shape_of}
use Rattle.array_reshaping_steps.specs.array_members_Status.{spare_count}
use Rattle.array_transition.proofs.refusing.unbegun.Goals as goal

pub returns-then-first-have : goal.returns-then-first-have
returns-then-first-have c =
    let m = c.args.members.now in
    let to = c.args.to.now in
    let first : c.shape_in-first.result.disks ≡ (shape_of m.newest).disks = ap (λ (s : Shape). s.disks) c.shape_in-first.ensures in
    let have : c.from.result ≡ spare_count m = c.from.ensures ∙ c.spare_count-have.ensures.count in
    let want : c.from-then-first-have.result ≡ to.disks - (shape_of m.newest).disks = (let is = c.from-then-first-have.ensures in omega (arith, is, first)) in
    inr (c.in_default.ensures, (let less = c.if-first-have.true in let count = c.spare_count-have.ensures.count in omega (arith, less, first, count)), (λ i. NeedSpares (have i) (want i)))

pub returns : goal.returns
returns c =
    let m = c.args.members.now in
    let first : c.shape_in-first.result.disks ≡ (shape_of m.newest).disks = ap (λ (s : Shape). s.disks) c.shape_in-first.ensures in
    (c.in_default.ensures, (let enough = c.if-first-have.false in let count = c.spare_count-have.ensures.count in omega (arith, enough, first, count)))
