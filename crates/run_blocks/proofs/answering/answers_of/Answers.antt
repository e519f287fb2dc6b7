use Rattle.std.proofs.Common.{◌≡◌, ℕ, ◌+◌, ◌≤◌, List, [], ◌∷◌, ◌++◌, length, ◌∙◌, ap, arith, length-append}
use Rattle.std.proofs.lemmas.List.{length-map}
use Rattle.run_line_answers.specs.run_specs_Blocks.{places_told}
use Rattle.run_line_answers.specs.array_requests_the_Reply.{Reply}
use Rattle.run_line_answers.specs.array_requests_the_Reply_TheVariants.{Done, NoMemory as Short}
use Rattle.run_line_answers.specs.run_specs_the_Answered.{Answered}
use Rattle.run_line_answers.specs.run_specs_the_Answered_TheVariants.{Inside}
use Rattle.run_blocks.specs.Answers.{insides}
use Rattle.run_blocks.proofs.answering.answers_of.Goals as goal

few-places : (replies : List Reply) → length (places_told replies) ≤ length replies
few-places [] = omega arith
few-places (Done place event ∷ replies) = let few = few-places replies in omega (arith, few)
few-places (Short ∷ replies) = omega arith

few-insides : (epoch : ℕ) (replies : List Reply) → length (insides epoch (places_told replies)) ≤ length replies
few-insides epoch replies =
    let long = length-map (places_told replies) (λ (at : ℕ). Inside epoch at) in
    let few = few-places replies in
    omega (arith, long, few)

pub push_places-requires-2 : goal.push_places-requires-2
push_places-requires-2 c =
    let first : length c.push_places.new.whats.items ≡ length (insides c.args.epoch (places_told c.as_slice.result.now)) =
    ap (λ (l : List Answered). length l) (c.push_places.ensures.answers ∙ ap (λ (l : List Answered). l ++ insides c.args.epoch (places_told c.as_slice.result.now)) c.requires.empty) in
    let few = few-insides c.args.epoch c.as_slice.result.now in
    let one = ap (λ (l : List Reply). length l) c.as_slice.ensures.value in
    let two = ap (λ (l : List Reply). length l) c.as_slice-2.ensures.value in
    record { room = omega (arith, first, few, one, two, c.requires.few.0, c.requires.few.1, c.requires.room, c.push_places.ensures.room) }

pub push_reserved-requires : goal.push_reserved-requires
push_reserved-requires c =
    let first : length c.push_places.new.whats.items ≡ length (insides c.args.epoch (places_told c.as_slice.result.now)) =
    ap (λ (l : List Answered). length l) (c.push_places.ensures.answers ∙ ap (λ (l : List Answered). l ++ insides c.args.epoch (places_told c.as_slice.result.now)) c.requires.empty) in
    let second : length c.push_places-2.new.whats.items ≡ length c.push_places.new.whats.items + length (insides c.args.epoch (places_told c.as_slice-2.result.now)) =
    ap (λ (l : List Answered). length l) c.push_places-2.ensures.answers ∙ length-append c.push_places.new.whats.items (insides c.args.epoch (places_told c.as_slice-2.result.now)) in
    let few = few-insides c.args.epoch c.as_slice.result.now in
    let few_more = few-insides c.args.epoch c.as_slice-2.result.now in
    let one = ap (λ (l : List Reply). length l) c.as_slice.ensures.value in
    let two = ap (λ (l : List Reply). length l) c.as_slice-2.ensures.value in
    let long = c.push_places-2.new.whats.ok.0 in
    omega (arith, first, second, few, few_more, one, two, long, c.requires.few.0, c.requires.few.1, c.requires.room, c.push_places.ensures.room, c.push_places-2.ensures.room)
