use Rattle.std.proofs.Common.{◌+◌, ◌/◌, ◌≤◌, length, inl, refl, sym, subst, arith}
use Rattle.stripe_io.specs.sb_specs_the_Members.{Members}
use Rattle.stripe_io.specs.sb_specs_Reading.{list_length}
use Rattle.stripe_region_read.proofs.StretchLaws.{list-short, data-few}
use Rattle.stripe_region_read.proofs.UnreadLaws.{wider-unread, never-none}
use Rattle.stripe_region_read.proofs.fetching.read_regions.Goals as goal

pub overflow_add-to : goal.overflow_add-to
overflow_add-to g c =
    let newest = c.args.members.now.newest in
    let few = data-few newest c.requires.placed.fit _ (inl refl) in
    let short = list-short newest _ (inl refl) in
    omega (arith, few, short, c.requires.within)

pub first_list_refusal-requires-clause-within : goal.first_list_refusal-requires-clause-within
first_list_refusal-requires-clause-within g c =
    subst (λ (m : Members). c.args.first + length c.args.into.now / 512 ≤ list_length m.newest) (sym c.read_stretches-at.ensures.lost.1) c.requires.within

pub returns-then-at-to-clause-refused : goal.returns-then-at-to-clause-refused
returns-then-at-to-clause-refused g c =
    let did = c.read_stretches-at.ensures in
    wider-unread c.args.relied c.args.first c.read_stretches-at.result (c.args.first + length c.args.into.now / 512) c.read_stretches-at.new.members did.from c.first_list_refusal.result c.first_list_refusal.ensures

pub returns-then-at-to-clause-holds : goal.returns-then-at-to-clause-holds
returns-then-at-to-clause-holds g c =
    λ none. absurd (never-none c.args.relied c.read_stretches-at.result (c.args.first + length c.args.into.now / 512) c.read_stretches-at.new.members (c.read_stretches-at.ensures.unread c.if-at-to.true)
    c.first_list_refusal.result c.first_list_refusal.ensures none)

pub returns-clause-holds : goal.returns-clause-holds
returns-clause-holds g c =
    λ none told hidden list stands fills i lt shown.
    let end = c.if-at-to.false in
    c.read_stretches-at.ensures.holds told hidden list stands fills i (omega (arith, lt, end)) shown

pub read_stretches-at-requires-clause-placed : goal.read_stretches-at-requires-clause-placed
read_stretches-at-requires-clause-placed g c = c.requires.placed

pub read_stretches-at-requires-clause-unlost : goal.read_stretches-at-requires-clause-unlost
read_stretches-at-requires-clause-unlost g c = c.requires.unlost

pub read_stretches-at-requires-clause-into : goal.read_stretches-at-requires-clause-into
read_stretches-at-requires-clause-into g c = c.requires.into

pub read_stretches-at-requires-clause-within : goal.read_stretches-at-requires-clause-within
read_stretches-at-requires-clause-within g c = c.requires.within

pub read_stretches-at-requires-clause-scratch : goal.read_stretches-at-requires-clause-scratch
read_stretches-at-requires-clause-scratch g c = c.requires.scratch

pub first_list_refusal-requires-clause-fit : goal.first_list_refusal-requires-clause-fit
first_list_refusal-requires-clause-fit g c = c.read_stretches-at.ensures.moved.placed.fit

pub first_list_refusal-requires-clause-roles : goal.first_list_refusal-requires-clause-roles
first_list_refusal-requires-clause-roles g c = c.read_stretches-at.ensures.moved.placed.roles

pub returns-then-at-to-clause-moved : goal.returns-then-at-to-clause-moved
returns-then-at-to-clause-moved g c = c.read_stretches-at.ensures.moved

pub returns-then-at-to-clause-lost : goal.returns-then-at-to-clause-lost
returns-then-at-to-clause-lost g c = c.read_stretches-at.ensures.lost

pub returns-then-at-to-clause-failed : goal.returns-then-at-to-clause-failed
returns-then-at-to-clause-failed g c = c.read_stretches-at.ensures.failed

pub returns-then-at-to-clause-kept : goal.returns-then-at-to-clause-kept
returns-then-at-to-clause-kept g c = c.read_stretches-at.ensures.kept

pub returns-then-at-to-clause-tape : goal.returns-then-at-to-clause-tape
returns-then-at-to-clause-tape g c = c.read_stretches-at.ensures.tape

pub returns-then-at-to-clause-given : goal.returns-then-at-to-clause-given
returns-then-at-to-clause-given g c = c.read_stretches-at.ensures.given

pub returns-then-at-to-clause-counts : goal.returns-then-at-to-clause-counts
returns-then-at-to-clause-counts g c = c.read_stretches-at.ensures.counts

pub returns-clause-moved : goal.returns-clause-moved
returns-clause-moved g c = c.read_stretches-at.ensures.moved

pub returns-clause-lost : goal.returns-clause-lost
returns-clause-lost g c = c.read_stretches-at.ensures.lost

pub returns-clause-failed : goal.returns-clause-failed
returns-clause-failed g c = c.read_stretches-at.ensures.failed

pub returns-clause-kept : goal.returns-clause-kept
returns-clause-kept g c = c.read_stretches-at.ensures.kept

pub returns-clause-tape : goal.returns-clause-tape
returns-clause-tape g c = c.read_stretches-at.ensures.tape

pub returns-clause-given : goal.returns-clause-given
returns-clause-given g c = c.read_stretches-at.ensures.given

pub returns-clause-counts : goal.returns-clause-counts
returns-clause-counts g c = c.read_stretches-at.ensures.counts
