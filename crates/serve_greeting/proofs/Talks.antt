-- A greeting, option by option.
use Rattle.std.proofs.Common.{◌≡◌, ℕ, List, [], ◌∷◌, ◌++◌, take, Bool, Result, Ok, sym, ap, ◌∙◌, append_assoc}
use Rattle.std.specs.List.{flat_map}
use Rattle.std.proofs.lemmas.List.{flat_map_more}
use Rattle.script_io.specs.Moves.{Pushed}
use Rattle.serve_greeting.specs.declared.asked.Asked.{Asked}
use Rattle.serve_greeting.specs.declared.asked.Next.TheVariants as nexts
use Rattle.serve_greeting.specs.declared.taking.Said.{Said}
use Rattle.serve_greeting.specs.Options.{option_bytes, IsAsked, next_of}
use Rattle.serve_greeting.specs.Answers.{answer_to}
use Rattle.serve_greeting.specs.Talk.{OptionTaken, Spoken, Answered, HalfAnswered, client_flags, hello, AllGoOn, Talked}

-- an option that stands at the buffer's front
abbrev pub spoken : Said → List ℕ → Asked → Spoken
spoken said buffer asked = record { option = said.option; content = take said.length buffer; asked = asked }

-- it is answered whole
pub answered_whole : {T E : Type 0} (source_tells sink_tells : Type 0) (size : ℕ) (zeroes : Bool) (said : Said) (asked : Asked) (old new buffer taken now : List ℕ) (x : T)
    → OptionTaken source_tells (Ok said) old new buffer → IsAsked said.option (take said.length buffer) asked
    → Pushed {T = T} {E = E} sink_tells (Ok x) taken now (answer_to size zeroes asked)
    → Answered source_tells sink_tells size zeroes (spoken said buffer asked) old new taken now
answered_whole source_tells sink_tells size zeroes said asked old new buffer taken now x option is pushed = record { asked = is; said = option.found; answered = pushed.whole }

-- the sink failed at it
pub answered_half : {T E : Type 0} (source_tells sink_tells : Type 0) (size : ℕ) (zeroes : Bool) (said : Said) (asked : Asked) (old new buffer taken now : List ℕ) (r : Result T E)
    → OptionTaken source_tells (Ok said) old new buffer → IsAsked said.option (take said.length buffer) asked
    → Pushed {T = T} {E = E} sink_tells r taken now (answer_to size zeroes asked)
    → HalfAnswered source_tells sink_tells size zeroes (spoken said buffer asked) old new taken now
answered_half source_tells sink_tells size zeroes said asked old new buffer taken now r option is pushed = record { asked = is; said = option.found; answered = pushed.front }

all_more : (talk : List Spoken) (s : Spoken) → AllGoOn talk → IsAsked s.option s.content s.asked → next_of s.asked ≡ nexts.Option → AllGoOn (talk ++ s ∷ [])
all_more [] s all asked next = (asked, next, tt)
all_more (x ∷ talk) s all asked next = (all.0, all.1, all_more talk s all.2 asked next)

-- one option more
pub talked_more : (source_tells sink_tells : Type 0) (size : ℕ) (zeroes : Bool) (talk : List Spoken) (s : Spoken) (old mid new taken told now : List ℕ)
    → Talked source_tells sink_tells size zeroes talk old mid taken told → Answered source_tells sink_tells size zeroes s mid new told now → next_of s.asked ≡ nexts.Option
    → Talked source_tells sink_tells size zeroes (talk ++ s ∷ []) old new taken now
talked_more source_tells sink_tells size zeroes talk s old mid new taken told now talked answered next =
    let bytes : Spoken → List ℕ = λ x. option_bytes x.option x.content in
    let answers : Spoken → List ℕ = λ x. answer_to size zeroes x.asked in
    record {
      each = all_more talk s talked.each answered.asked next;
      said = λ t. talked.said t
          ∙ ap (λ l. client_flags zeroes ++ l)
          (ap (λ l. flat_map bytes talk ++ l) (answered.said t) ∙ sym (append_assoc (flat_map bytes talk) (bytes s) new)
          ∙ ap (λ l. l ++ new) (flat_map_more bytes [] talk s));
      answered = λ t. answered.answered t
          ∙ ap (λ l. l ++ answers s) (talked.answered t)
          ∙ append_assoc taken (hello ++ flat_map answers talk) (answers s)
          ∙ ap (λ l. taken ++ l) (append_assoc hello (flat_map answers talk) (answers s) ∙ ap (λ l. hello ++ l) (flat_map_more answers [] talk s));
    }
