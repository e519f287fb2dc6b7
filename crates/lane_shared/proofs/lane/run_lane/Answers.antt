use Rattle.std.proofs.Common.{rules, ◌≡◌, List, [], ◌∷◌, ◌++◌, true, false, length, refl, sym, ap, ◌∙◌, subst, append_assoc, append-nil, arith}
use Rattle.std.specs.Vec.Iter.{into_iter_items}
use Rattle.std.proofs.lemmas.List.Elements.{All-same, All-tail}
use Rattle.history_caller_laws.specs.history_the_Request.{Request}
use Rattle.array_requests.specs.declared.reply.Reply.{Reply}
use Rattle.array_requests.specs.declared.reply.Reply.TheVariants.{Done, NoMemory as Short}
use Rattle.array_requests.specs.Replies.{IsAskable}
use Rattle.lane_shared.specs.Carried.{Carried, GoesOn, IsAnswered}
use Rattle.lane_shared.specs.Lane.{AreCalls, AreDone, is_short}
use Rattle.lane_shared.proofs.Done.{stays, on, none-done, AllEntered, entered-more, calls-more, calls-short, done-more, done-short}
use Rattle.lane_shared.proofs.lane.run_lane.Goals as goal

none-left : {X : Type 0} (l : List X) → length l ≡ 0 → l ≡ []
none-left [] is = refl
none-left (x ∷ l) is = absurd (omega arith)

module _ {tells P : Type 0} (answered : P → Request → Reply → P → Type 0) (carried : P → Carried) (old mid new : P) (requests : List Request) (replies : List Reply)
    (request : Request) where
  -- a request was answered, and the lane goes on
  goes-on : (reply : Reply) → is_short reply ≡ false → AreCalls answered old requests replies mid → AreDone (carried old) (carried mid) requests replies
      → AllEntered replies → GoesOn tells (carried mid) (carried new) → answered mid request reply new → IsAnswered tells (carried mid) request reply (carried new)
      → AreCalls answered old (requests ++ request ∷ []) (replies ++ reply ∷ []) new
      × AreDone (carried old) (carried new) (requests ++ request ∷ []) (replies ++ reply ∷ []) × AllEntered (replies ++ reply ∷ [])
  goes-on (Done at event) is calls was all goes call k = (
    calls-more answered old mid new requests replies request at event calls all call,
    done-more (carried old) (carried mid) (carried new) requests replies request was all goes at event k,
    entered-more replies at event all,
  )
  goes-on Short is calls was all goes call k = absurd cc

  -- memory was short, and the lane ends
  ends : (rest : List Request) (reply : Reply) → is_short reply ≡ true → AreCalls answered old requests replies mid → AreDone (carried old) (carried mid) requests replies
      → AllEntered replies → GoesOn tells (carried mid) (carried new) → answered mid request reply new → IsAnswered tells (carried mid) request reply (carried new)
      → AreCalls answered old (requests ++ request ∷ rest) (replies ++ reply ∷ []) new
      × AreDone (carried old) (carried new) (requests ++ request ∷ rest) (replies ++ reply ∷ [])
  ends rest (Done at event) is calls was all goes call k = absurd cc
  ends rest Short is calls was all goes call k = (
    calls-short answered old mid new requests replies request rest calls all call,
    done-short (carried old) (carried mid) (carried new) requests replies request was all goes rest k,
  )

pub loop-request-init : goal.loop-request-init
loop-request-init g c =
    let gives = c.into_iter-request-iterator.ensures.into_iter_gives in
    let room = c.requires.room in
    let len = gives.1 in
    let items = gives.0 in (
      items,
      search rules,
      refl,
      stays (g.S.Service.carried c.args.pass),
      (λ own. own),
      omega (arith, len, room),
      All-same IsAskable _ _ items c.requires.askable,
      ([], sym (append-nil c.args.replies.now.items), refl, none-done (g.S.Service.carried c.args.pass), tt),
    )

pub loop-request-preserved : goal.loop-request-preserved
loop-request-preserved g c =
    let at = c.loop-request in
    let was = at.invariant in
    let made = was.7 in
    let x = c.in-Some.request in
    let steps : into_iter_items at.request-iterator ≡ x ∷ into_iter_items c.next.new.self = c.in-Some.ensures.steps.0 in
    let gone = c.in-Some.ensures.steps.1 in
    let one = c.make-next.ensures in
    let more = goes-on g.S.Service.answered g.S.Service.carried c.args.pass at.pass c.make-next.result.0 at.yielded made.0 x one.answered.0
    (sym one.answered.2 ∙ c.if-short.false) made.2 made.3 made.4 one.later one.answered.3 one.answered.4 in (
      append_assoc at.yielded (x ∷ []) _ ∙ rw (← steps) was.0,
      (let long = was.1 in let short = ap length steps in omega (arith, long, short, gone)),
      one.lock ∙ was.2,
      on (g.S.Service.carried c.args.pass) (g.S.Service.carried at.pass) (g.S.Service.carried c.make-next.result.0) was.3 one.later,
      (λ own. one.own),
      (let room = was.5 in let len = one.len in let capacity = one.capacity in omega (arith, room, len, capacity, gone)),
      All-tail IsAskable x _ (All-same IsAskable _ _ (sym steps) was.6),
      (
        made.0 ++ one.answered.0 ∷ [],
        one.answered.1 ∙ ap (λ (l : List Reply). l ++ one.answered.0 ∷ []) made.1 ∙ append_assoc c.args.replies.now.items made.0 (one.answered.0 ∷ []),
        more.0,
        more.1,
        more.2,
      ),
    )

pub returns-then-short-clause-later : goal.returns-then-short-clause-later
returns-then-short-clause-later g c =
    on (g.S.Service.carried c.args.pass) (g.S.Service.carried c.loop-request.pass) (g.S.Service.carried c.make-next.result.0) c.loop-request.invariant.3 c.make-next.ensures.later

pub returns-then-short-clause-done : goal.returns-then-short-clause-done
returns-then-short-clause-done g c =
    let at = c.loop-request in
    let was = at.invariant in
    let made = was.7 in
    let x = c.in-Some.request in
    let steps : into_iter_items at.request-iterator ≡ x ∷ into_iter_items c.next.new.self = c.in-Some.ensures.steps.0 in
    let one = c.make-next.ensures in
    let more = ends g.S.Service.answered g.S.Service.carried c.args.pass at.pass c.make-next.result.0 at.yielded made.0 x (into_iter_items c.next.new.self) one.answered.0
    (sym one.answered.2 ∙ c.if-short.true) made.2 made.3 made.4 one.later one.answered.3 one.answered.4 in
    let all : at.yielded ++ x ∷ into_iter_items c.next.new.self ≡ c.args.requests.items = rw (← steps) was.0 in (
      made.0 ++ one.answered.0 ∷ [],
      one.answered.1 ∙ ap (λ (l : List Reply). l ++ one.answered.0 ∷ []) made.1 ∙ append_assoc c.args.replies.now.items made.0 (one.answered.0 ∷ []),
      subst (λ (l : List Request). AreCalls g.S.Service.answered c.args.pass l (made.0 ++ one.answered.0 ∷ []) c.make-next.result.0) all more.0,
      subst (λ (l : List Request). AreDone (g.S.Service.carried c.args.pass) (g.S.Service.carried c.make-next.result.0) l (made.0 ++ one.answered.0 ∷ [])) all more.1,
    )
