use Rattle.std.proofs.Common.{ℕ, ◌+◌, ◌*◌, ◌<◌, get_or, ◌∙◌, arith}
use Rattle.raid_parity.proofs.Columns.{q_not_p}
use Rattle.raid_parity_simd.proofs.Gathers.{gathered_plain, gathered_both}
use Rattle.raid_parity_simd.proofs.Rests.{xor_twice, rest_of_others}
use Rattle.raid_parity_simd.proofs.gathered.parity_of.Goals as goal

pub sum_of-requires-clause-few : goal.sum_of-requires-clause-few
sum_of-requires-clause-few c = omega (arith, c.other_places.ensures.places.few, c.requires.roles.most)

pub sum_of-requires-clause-within : goal.sum_of-requires-clause-within
sum_of-requires-clause-within c j lt =
    let found = c.other_places.ensures.places.of_role j lt in
    let within = c.requires.within found.0 found.1 in
    omega (arith, found.2, within)

pub both_of-requires-clause-few : goal.both_of-requires-clause-few
both_of-requires-clause-few c = omega (arith, c.data_places.ensures.places.few, c.requires.roles.most)

pub both_of-requires-clause-within : goal.both_of-requires-clause-within
both_of-requires-clause-within c j lt =
    let found = c.data_places.ensures.places.of_role j lt in
    let within = c.requires.within found.0 found.1 in
    omega (arith, found.2, within)

pub sum_of-requires-clause-long : goal.sum_of-requires-clause-long
sum_of-requires-clause-long c = let within = c.requires.within c.args.roles.now.p c.requires.roles.p in omega (arith, within)

pub both_of-requires-clause-long : goal.both_of-requires-clause-long
both_of-requires-clause-long c = let within = c.requires.within c.args.roles.now.p c.requires.roles.p in omega (arith, within)

pub returns-in-None-clause-good : goal.returns-in-None-clause-good
returns-in-None-clause-good c i lt_i =
    let roles = c.args.roles.now in
    let is = c.requires.roles in
    let bytes = c.args.bytes.now in
    let starts = c.args.starts.now in
    gathered_plain roles is bytes starts c.sum_of.new.sum c.args.q.now i c.in-None.is
    (λ at lt.
    let f : ℕ → ℕ = λ r. get_or bytes (get_or starts r 0 + (512 * i + at)) 0 in
    c.sum_of.ensures.there (512 * i + at) (omega arith)
    ∙ c.other_places.ensures.sum (λ place. get_or bytes (place + (512 * i + at)) 0)
    ∙ rest_of_others roles is roles.p is.p (q_not_p roles is) f ∙ xor_twice _ (f roles.p))

pub returns-in-Some-clause-good : goal.returns-in-Some-clause-good
returns-in-Some-clause-good c i lt_i =
    let roles = c.args.roles.now in
    let is = c.requires.roles in
    let bytes = c.args.bytes.now in
    let starts = c.args.starts.now in
    let small : (k r : ℕ) → r < roles.disks → get_or bytes (get_or starts r 0 + k) 0 < 256 = λ k r _. c.both_of.ensures.bytes (get_or starts r 0 + k) in
    gathered_both roles is bytes starts c.both_of.new.plain c.both_of.new.weighed i c.in-Some.role c.in-Some.is
    (λ at lt. c.both_of.ensures.plain (512 * i + at) (omega arith) ∙ c.data_places.ensures.plain (λ place. get_or bytes (place + (512 * i + at)) 0) (small (512 * i + at)))
    (λ at lt. c.both_of.ensures.weighed (512 * i + at) (omega arith) ∙ c.data_places.ensures.weighed (λ place. get_or bytes (place + (512 * i + at)) 0) (small (512 * i + at)))
