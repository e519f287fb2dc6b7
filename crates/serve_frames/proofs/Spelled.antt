-- Headers that are read field by field, and the one header of each request and reply.
use Rattle.std.proofs.Common.{◌≡◌, ℕ, ◌+◌, ◌^◌, ◌<◌, ◌≢◌, List, [], ◌++◌, length, take, drop, Option, Some, None, replicate, if◌then◌else◌, nat_eq, lit<, refl, sym, ap, ◌∙◌, arith}
use borrow.Rule.Slice.PartMut.{put_mid}
use Rattle.std.specs.Int.{w16, w32, w64, to_be_bytes}
use Rattle.std.proofs.lemmas.List.{nil_from_length}
use Rattle.serve_frames.specs.declared.command.Command.{Command}
use Rattle.serve_frames.specs.declared.command.Command.TheVariants.{Read, Write, Disconnect, Flush, Other}
use Rattle.serve_frames.specs.declared.errors.RequestError.{RequestError}
use Rattle.serve_frames.specs.declared.errors.RequestError.TheVariants.{Io, NoMemory, Invalid, NoSpace}
use Rattle.serve_frames.specs.declared.request.Request.{Request}
use Rattle.serve_frames.specs.declared.reply.Reply.{Reply}
use Rattle.serve_frames.specs.Commands.{number_of, IsCommand}
use Rattle.serve_frames.specs.Errors.{outcome_number}
use Rattle.serve_frames.specs.Requests.{request_bytes, Fits}
use Rattle.serve_frames.specs.Replies.{reply_bytes}
use Rattle.serve_bytes.proofs.BigEndian.{same_16, same_32, same_64}

-- ---- requests

abbrev six : ℕ → ℕ → ℕ → ℕ → ℕ → ℕ → List ℕ → List ℕ
six magic flags number cookie offset long rest =
    to_be_bytes w32 magic ++ (to_be_bytes w16 flags ++ (to_be_bytes w16 number ++ (to_be_bytes w64 cookie ++ (to_be_bytes w64 offset ++ (to_be_bytes w32 long ++ rest)))))

pub request_read : (bytes r1 r2 r3 r4 r5 r6 : List ℕ) (magic flags number cookie offset long : ℕ) (command : Command) → length bytes ≡ 28
    → bytes ≡ to_be_bytes w32 magic ++ r1 → r1 ≡ to_be_bytes w16 flags ++ r2 → r2 ≡ to_be_bytes w16 number ++ r3 → r3 ≡ to_be_bytes w64 cookie ++ r4
    → r4 ≡ to_be_bytes w64 offset ++ r5 → r5 ≡ to_be_bytes w32 long ++ r6 → magic ≡ 0x25609513 → number_of command ≡ number
    → bytes ≡ request_bytes (record { flags = flags; command = command; cookie = cookie; offset = offset; length = long })
unfolding request_bytes
request_read bytes r1 r2 r3 r4 r5 r6 magic flags number cookie offset long command whole e0 e1 e2 e3 e4 e5 is_magic is_number =
    let all : bytes ≡ six magic flags number cookie offset long r6 =
    e0 ∙ ap (λ l. to_be_bytes w32 magic ++ l) (e1 ∙ ap (λ l. to_be_bytes w16 flags ++ l) (e2 ∙ ap (λ l. to_be_bytes w16 number ++ l)
    (e3 ∙ ap (λ l. to_be_bytes w64 cookie ++ l) (e4 ∙ ap (λ l. to_be_bytes w64 offset ++ l) e5)))) in
    let none : r6 ≡ [] = nil_from_length r6 (omega (arith, ap length all)) in
    all ∙ ap (λ l. six magic flags number cookie offset long l) none
    ∙ ap (λ m. six m flags number cookie offset long []) is_magic
    ∙ ap (λ n. six 0x25609513 flags n cookie offset long []) (sym is_number)

-- other first bytes are no request's
pub no_request : (bytes rest : List ℕ) (magic : ℕ) (r : Request) → magic < 2 ^ 32 → bytes ≡ to_be_bytes w32 magic ++ rest → magic ≢ 0x25609513 → bytes ≢ request_bytes r
unfolding request_bytes
no_request bytes rest magic r small front other e = other (same_32 magic 0x25609513 small (lit< tt) (ap (take 4) (sym front ∙ e)))

same_command : (a b : Command) → IsCommand a → IsCommand b → number_of a ≡ number_of b → a ≡ b
same_command Read Read x y e = refl
same_command Write Write x y e = refl
same_command Disconnect Disconnect x y e = refl
same_command Flush Flush x y e = refl
same_command (Other m) (Other n) x y e = ap (λ k. Other k) e
same_command Read Write x y e = absurd cc
same_command Read Disconnect x y e = absurd cc
same_command Read Flush x y e = absurd cc
same_command Read (Other n) x y e = absurd (omega arith)
same_command Write Read x y e = absurd cc
same_command Write Disconnect x y e = absurd cc
same_command Write Flush x y e = absurd cc
same_command Write (Other n) x y e = absurd (omega arith)
same_command Disconnect Read x y e = absurd cc
same_command Disconnect Write x y e = absurd cc
same_command Disconnect Flush x y e = absurd cc
same_command Disconnect (Other n) x y e = absurd (omega arith)
same_command Flush Read x y e = absurd cc
same_command Flush Write x y e = absurd cc
same_command Flush Disconnect x y e = absurd cc
same_command Flush (Other n) x y e = absurd (omega arith)
same_command (Other m) Read x y e = absurd (omega arith)
same_command (Other m) Write x y e = absurd (omega arith)
same_command (Other m) Disconnect x y e = absurd (omega arith)
same_command (Other m) Flush x y e = absurd (omega arith)

abbrev request_of : ℕ → Command → ℕ → ℕ → ℕ → Request
request_of flags command cookie offset long = record { flags = flags; command = command; cookie = cookie; offset = offset; length = long }

-- one header, one request
pub same_request : (a b : Request) → Fits a → Fits b → request_bytes a ≡ request_bytes b → a ≡ b
unfolding request_bytes
same_request a b x y e =
    let flags = same_16 a.flags b.flags x.flags y.flags (ap (λ l. take 2 (drop 4 l)) e) in
    let number = same_16 (number_of a.command) (number_of b.command) x.number y.number (ap (λ l. take 2 (drop 6 l)) e) in
    let cookie = same_64 a.cookie b.cookie x.cookie y.cookie (ap (λ l. take 8 (drop 8 l)) e) in
    let offset = same_64 a.offset b.offset x.offset y.offset (ap (λ l. take 8 (drop 16 l)) e) in
    let long = same_32 a.length b.length x.length y.length (ap (λ l. take 4 (drop 24 l)) e) in
    ap (λ v. request_of v a.command a.cookie a.offset a.length) flags
    ∙ ap (λ v. request_of b.flags v a.cookie a.offset a.length) (same_command a.command b.command x.command y.command number)
    ∙ ap (λ v. request_of b.flags b.command v a.offset a.length) cookie
    ∙ ap (λ v. request_of b.flags b.command b.cookie v a.length) offset
    ∙ ap (λ v. request_of b.flags b.command b.cookie b.offset v) long

-- piece by piece
pub request_written : (r : Request) (magic flags command cookie offset long : List ℕ) → magic ≡ to_be_bytes w32 0x25609513 → flags ≡ to_be_bytes w16 r.flags
    → command ≡ to_be_bytes w16 (number_of r.command) → cookie ≡ to_be_bytes w64 r.cookie → offset ≡ to_be_bytes w64 r.offset → long ≡ to_be_bytes w32 r.length
    → put_mid 24 4 (put_mid 16 8 (put_mid 8 8 (put_mid 6 2 (put_mid 4 2 (magic ++ replicate 24 0) flags) command) cookie) offset) long ≡ request_bytes r
unfolding request_bytes
request_written r magic flags command cookie offset long e0 e1 e2 e3 e4 e5 =
    λ i. put_mid 24 4 (put_mid 16 8 (put_mid 8 8 (put_mid 6 2 (put_mid 4 2 (e0 i ++ replicate 24 0) (e1 i)) (e2 i)) (e3 i)) (e4 i)) (e5 i)

-- ---- replies

abbrev three : ℕ → ℕ → ℕ → List ℕ → List ℕ
three magic number cookie rest = to_be_bytes w32 magic ++ (to_be_bytes w32 number ++ (to_be_bytes w64 cookie ++ rest))

pub reply_read : (bytes r1 r2 r3 : List ℕ) (magic number cookie : ℕ) (error : Option RequestError) → length bytes ≡ 16
    → bytes ≡ to_be_bytes w32 magic ++ r1 → r1 ≡ to_be_bytes w32 number ++ r2 → r2 ≡ to_be_bytes w64 cookie ++ r3 → magic ≡ 0x67446698
    → outcome_number error ≡ number → bytes ≡ reply_bytes (record { cookie = cookie; error = error })
unfolding reply_bytes
reply_read bytes r1 r2 r3 magic number cookie error whole e0 e1 e2 is_magic is_number =
    let all : bytes ≡ three magic number cookie r3 = e0 ∙ ap (λ l. to_be_bytes w32 magic ++ l) (e1 ∙ ap (λ l. to_be_bytes w32 number ++ l) e2) in
    let none : r3 ≡ [] = nil_from_length r3 (omega (arith, ap length all)) in
    all ∙ ap (λ l. three magic number cookie l) none ∙ ap (λ m. three m number cookie []) is_magic ∙ ap (λ n. three 0x67446698 n cookie []) (sym is_number)

pub no_reply : (bytes rest : List ℕ) (magic : ℕ) (r : Reply) → magic < 2 ^ 32 → bytes ≡ to_be_bytes w32 magic ++ rest → magic ≢ 0x67446698 → bytes ≢ reply_bytes r
unfolding reply_bytes
no_reply bytes rest magic r small front other e = other (same_32 magic 0x67446698 small (lit< tt) (ap (take 4) (sym front ∙ e)))

outcome_small : (e : Option RequestError) → outcome_number e < 2 ^ 32
outcome_small None = lit< tt
outcome_small (Some Io) = lit< tt
outcome_small (Some NoMemory) = lit< tt
outcome_small (Some Invalid) = lit< tt
outcome_small (Some NoSpace) = lit< tt

-- an error that has no number of these
pub no_outcome : (bytes r1 r2 : List ℕ) (magic number : ℕ) (r : Reply) → number < 2 ^ 32 → bytes ≡ to_be_bytes w32 magic ++ r1 → r1 ≡ to_be_bytes w32 number ++ r2
    → ((e : Option RequestError) → outcome_number e ≢ number) → bytes ≢ reply_bytes r
unfolding reply_bytes
no_outcome bytes r1 r2 magic number r small e0 e1 other e =
    other r.error (same_32 (outcome_number r.error) number (outcome_small r.error) small
    (ap (λ l. take 4 (drop 4 l)) (sym e ∙ e0 ∙ ap (λ l. to_be_bytes w32 magic ++ l) e1)))

-- the error of a number
abbrev named : ℕ → Option RequestError
named n =
    if nat_eq n 5 then Some Io else (if nat_eq n 12 then Some NoMemory else (if nat_eq n 22 then Some Invalid else (if nat_eq n 28 then Some NoSpace else None)))

named_back : (e : Option RequestError) → named (outcome_number e) ≡ e
named_back None = refl
named_back (Some Io) = refl
named_back (Some NoMemory) = refl
named_back (Some Invalid) = refl
named_back (Some NoSpace) = refl

same_error : (a b : Option RequestError) → outcome_number a ≡ outcome_number b → a ≡ b
same_error a b e = sym (named_back a) ∙ ap named e ∙ named_back b

abbrev reply_of : ℕ → Option RequestError → Reply
reply_of cookie error = record { cookie = cookie; error = error }

-- one header, one reply
pub same_reply : (a b : Reply) → a.cookie < 2 ^ 64 → b.cookie < 2 ^ 64 → reply_bytes a ≡ reply_bytes b → a ≡ b
unfolding reply_bytes
same_reply a b x y e =
    let number = same_32 (outcome_number a.error) (outcome_number b.error) (outcome_small a.error) (outcome_small b.error) (ap (λ l. take 4 (drop 4 l)) e) in
    let cookie = same_64 a.cookie b.cookie x y (ap (λ l. take 8 (drop 8 l)) e) in
    ap (λ v. reply_of v a.error) cookie ∙ ap (λ v. reply_of b.cookie v) (same_error a.error b.error number)

pub reply_written : (r : Reply) (magic number cookie : List ℕ) → magic ≡ to_be_bytes w32 0x67446698 → number ≡ to_be_bytes w32 (outcome_number r.error)
    → cookie ≡ to_be_bytes w64 r.cookie → put_mid 8 8 (put_mid 4 4 (magic ++ replicate 12 0) number) cookie ≡ reply_bytes r
unfolding reply_bytes
reply_written r magic number cookie e0 e1 e2 = λ i. put_mid 8 8 (put_mid 4 4 (e0 i ++ replicate 12 0) (e1 i)) (e2 i)
