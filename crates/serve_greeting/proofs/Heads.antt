-- Options that are taken of a source, or cut off.
use Rattle.std.proofs.Common.{◌≡◌, ℕ, ◌^◌, ◌<◌, ◌≤◌, ◌≢◌, List, [], ◌++◌, length, take, drop, Ok, Err, inl, inr, lit<, sym, ap, ◌∙◌, append_assoc, arith}
use Rattle.std.specs.Int.{w32, w64, to_be_bytes}
use Rattle.std.proofs.lemmas.List.{length-take, nil_from_length}
use Rattle.serve_bytes.specs.declared.exact.ReadError.{ReadError}
use Rattle.serve_bytes.specs.declared.exact.ReadError.TheVariants as reads
use Rattle.serve_bytes.specs.Exact.{Read}
use Rattle.serve_bytes.proofs.BigEndian.{same_32, same_64}
use Rattle.serve_greeting.specs.declared.taking.Said.{Said}
use Rattle.serve_greeting.specs.Options.{option_head}
use Rattle.serve_greeting.specs.Ends.{end_of}
use Rattle.serve_greeting.specs.Talk.{IsNoHead, OptionTaken}

-- ---- a head

abbrev parts : ℕ → ℕ → ℕ → List ℕ → List ℕ
parts magic option long rest = to_be_bytes w64 magic ++ (to_be_bytes w32 option ++ (to_be_bytes w32 long ++ rest))

read_so : (head r1 r2 r3 : List ℕ) (magic option long : ℕ) → length head ≡ 16 → head ≡ to_be_bytes w64 magic ++ r1 → r1 ≡ to_be_bytes w32 option ++ r2
    → r2 ≡ to_be_bytes w32 long ++ r3 → head ≡ parts magic option long []
read_so head r1 r2 r3 magic option long whole e0 e1 e2 =
    let all : head ≡ parts magic option long r3 = e0 ∙ ap (λ l. to_be_bytes w64 magic ++ l) (e1 ∙ ap (λ l. to_be_bytes w32 option ++ l) e2) in
    let none : r3 ≡ [] = nil_from_length r3 (omega (arith, ap length all)) in
    all ∙ ap (λ l. parts magic option long l) none

pub head_read : (head r1 r2 r3 : List ℕ) (magic option long : ℕ) → length head ≡ 16 → head ≡ to_be_bytes w64 magic ++ r1 → r1 ≡ to_be_bytes w32 option ++ r2
    → r2 ≡ to_be_bytes w32 long ++ r3 → magic ≡ 0x49484156454F5054 → head ≡ option_head option long
unfolding option_head
head_read head r1 r2 r3 magic option long whole e0 e1 e2 is_magic =
    read_so head r1 r2 r3 magic option long whole e0 e1 e2 ∙ ap (λ m. parts m option long []) is_magic

-- another magic number
pub no_magic : (head r1 : List ℕ) (magic : ℕ) → magic < 2 ^ 64 → head ≡ to_be_bytes w64 magic ++ r1 → magic ≢ 0x49484156454F5054 → IsNoHead head
unfolding option_head
no_magic head r1 magic small e0 other = λ option long few e. other (same_64 magic 0x49484156454F5054 small (lit< tt) (ap (take 8) (sym e0 ∙ e)))

-- too long a content
pub too_long : (head r1 r2 r3 : List ℕ) (magic option long : ℕ) → length head ≡ 16 → long < 2 ^ 32 → head ≡ to_be_bytes w64 magic ++ r1 → r1 ≡ to_be_bytes w32 option ++ r2
    → r2 ≡ to_be_bytes w32 long ++ r3 → 65536 < long → IsNoHead head
unfolding option_head
too_long head r1 r2 r3 magic option long whole small e0 e1 e2 many = λ other wanted few e.
    let same : long ≡ wanted = same_32 long wanted small (omega arith)
    (ap (λ l. take 4 (drop 12 l)) (sym (read_so head r1 r2 r3 magic option long whole e0 e1 e2) ∙ e)) in
    absurd (omega arith)

-- cut off in the head
pub head_cut : {T : Type 0} (tells : Type 0) (e : ReadError) (old new head buffer : List ℕ) → Read {T = T} tells (Err e) old new head → length head ≡ 16
    → OptionTaken tells (Err (end_of e)) old new buffer
head_cut tells (reads.Ended n) old new head buffer read whole = record {
  found = λ t. tt;
  lost = λ t. (inl (omega (arith, whole, read.fewer, ap length ((read.cut_off t).0), length-take n head)), (read.cut_off t).1);
  ends = tt;
}
head_cut tells reads.Failed old new head buffer read whole = record {
  found = λ t. tt;
  lost = λ t.
      let cut = read.cut_off t in
      (take cut.0 head, inl (omega (arith, whole, cut.1, length-take cut.0 head)), cut.2);
  ends = tt;
}

-- cut off in the content
pub content_cut : {T U : Type 0} (tells : Type 0) (x : T) (e : ReadError) (s : Said) (old mid new head front buffer : List ℕ) → Read {T = T} tells (Ok x) old mid head
    → head ≡ option_head s.option s.length → s.length ≤ 65536 → Read {T = U} tells (Err e) mid new front → length front ≡ s.length
    → OptionTaken tells (Err (end_of e)) old new buffer
content_cut tells x (reads.Ended n) s old mid new head front buffer first is_head few second long = record {
  found = λ t. tt;
  lost = λ t. (
    inr (
      s.option,
      s.length,
      mid,
      few,
      first.whole t ∙ ap (λ l. l ++ mid) is_head,
      omega (arith, long, second.fewer, ap length ((second.cut_off t).0), length-take n front),
    ),
    (second.cut_off t).1,
  );
  ends = tt;
}
content_cut tells x reads.Failed s old mid new head front buffer first is_head few second long = record {
  found = λ t. tt;
  lost = λ t.
      let cut = second.cut_off t in
      let some = take cut.0 front in (
        head ++ some,
        inr (s.option, s.length, some, few, ap (λ l. l ++ some) is_head, omega (arith, long, cut.1, length-take cut.0 front)),
        first.whole t ∙ ap (λ l. head ++ l) cut.2 ∙ sym (append_assoc head some new),
      );
  ends = tt;
}
