-- Calls followed by calls are calls, and an empty list of calls leaves a source unchanged.
use Rattle.std.proofs.Common.{◌≡◌, ℕ, List, [], ◌∷◌, ◌++◌, Option, Some, None, refl, sym, ap, ◌∙◌, subst, append_assoc}
use Rattle.std.specs.Io.KnownBytes.{Consumes}
use Rattle.fsc_outside.specs.Causes.{one_more}
use Rattle.fsc_outside.specs.Reads.{ReadCall, AreReads, bytes_of_calls, faults_after}
use Rattle.fsc_outside.specs.Reads.ReadCall.{Gave, Faulted}
use Rattle.fsc_outside.specs.Sources.{Feed, AreFeeds, calls_after, state_of_feed}
use Rattle.fsc_outside.specs.States.{SourceState}

pub bytes_of_more : (calls more : List ReadCall)
    → bytes_of_calls (calls ++ more) ≡ bytes_of_calls calls ++ bytes_of_calls more
bytes_of_more [] more = refl
bytes_of_more (Gave bytes ∷ calls) more =
    ap (λ rest. bytes ++ rest) (bytes_of_more calls more)
    ∙ sym (append_assoc bytes (bytes_of_calls calls) (bytes_of_calls more))
bytes_of_more (Faulted ∷ calls) more = bytes_of_more calls more

faults_on : (calls more : List ReadCall) (count : ℕ)
    → faults_after (calls ++ more) count ≡ faults_after more (faults_after calls count)
faults_on [] more count = refl
faults_on (Gave bytes ∷ calls) more count = faults_on calls more count
faults_on (Faulted ∷ calls) more count = faults_on calls more (one_more count)

Consumes-none : (left : Option (List ℕ)) → Consumes left left []
Consumes-none None = tt
Consumes-none (Some bytes) = refl

pub Consumes-on : (a b c : Option (List ℕ)) (xs ys : List ℕ)
    → Consumes a b xs → Consumes b c ys → Consumes a c (xs ++ ys)
Consumes-on None b c xs ys first second = tt
Consumes-on (Some old) None c xs ys first second = absurd first
Consumes-on (Some old) (Some mid) None xs ys first second = absurd second
Consumes-on (Some old) (Some mid) (Some new) xs ys first second =
    let all : old ≡ xs ++ mid = first in
    all ∙ ap (λ zs. xs ++ zs) second ∙ sym (append_assoc xs ys new)

pub AreReads-none : (source : SourceState) → AreReads source [] source
AreReads-none source = record { bytes = Consumes-none source.left; faults = refl }

pub AreReads-on : (a b c : SourceState) (e f : List ReadCall)
    → AreReads a e b → AreReads b f c → AreReads a (e ++ f) c
AreReads-on a b c e f first second = record {
  bytes = subst (Consumes a.left c.left) (sym (bytes_of_more e f))
      (Consumes-on a.left b.left c.left (bytes_of_calls e) (bytes_of_calls f) first.bytes second.bytes);
  faults = second.faults ∙ ap (faults_after f) first.faults ∙ sym (faults_on e f a.faults);
}

counted_on : (calls more : List ReadCall) (count : ℕ)
    → calls_after (calls ++ more) count ≡ calls_after more (calls_after calls count)
counted_on [] more count = refl
counted_on (call ∷ calls) more count = counted_on calls more (one_more count)

pub AreFeeds-none : (feed : Feed) → AreFeeds feed [] feed
AreFeeds-none feed = record { reads = AreReads-none (state_of_feed feed); counted = refl }

pub AreFeeds-on : (a b c : Feed) (e f : List ReadCall) → AreFeeds a e b → AreFeeds b f c
    → AreFeeds a (e ++ f) c
AreFeeds-on a b c e f first second = record {
  reads = AreReads-on (state_of_feed a) (state_of_feed b) (state_of_feed c) e f first.reads second.reads;
  counted = second.counted ∙ ap (calls_after f) first.counted ∙ sym (counted_on e f a.calls);
}
