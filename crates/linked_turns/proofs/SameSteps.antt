-- If the parts of a caller's calls on both mounts have the same lines, the same became of the calls.
use Rattle.std.proofs.Common.{◌≡◌, ℕ, true, false, List, [], ◌∷◌, ◌++◌, refl, ap, ap₂, sym, ◌∙◌, subst}
use Rattle.std.proofs.lemmas.List.{map-append}
use Rattle.call_history.specs.Placed.{entries_of}
use Rattle.mount_model.specs.declared.call.Call.{Call}
use Rattle.mount_model.specs.declared.reply.Reply.{Reply}
use Rattle.mount_model.specs.declared.reply.Reply.TheVariants.{Refused}
use Rattle.mount_model.specs.declared.reply.Refusal.TheVariants.{NoMemory}
use Rattle.mount_model.specs.History.{MountEntry, is_out_of_memory}
use Rattle.mount_model.specs.Port.{PlacedCalls}
use Rattle.fsc_commands.specs.Steps.{Steps, Reaches}
use Rattle.fsc_commands.specs.Steps.Steps.{Done, Ask}
use Rattle.mount_links.specs.declared.asked.Asked.{Asked}
use Rattle.mount_links.specs.declared.asked.Asked.TheVariants.{Load, Store, Other}
use Rattle.mount_links.specs.declared.step.LinkStep.{LinkStep}
use Rattle.mount_links.specs.declared.step.LinkStep.TheVariants.{Alone, Followed, Looked, NotMade}
use Rattle.mount_links.specs.Linked.{look_before, own_part, own_parts, far_part, far_parts}
use Rattle.mount_links.specs.LinkSteps.{asked_of, is_link, IsStepOf}
use Rattle.mount_links.specs.LinkCalls.{AreSteps, load_call}
use Rattle.linked_turns.proofs.LineLemmas.{Line, line_of, lines, alike, same_call}

-- the same became of a call with one place and one reply, and the lines of the others on both mounts are
-- alike
record SameStep (l k : LinkStep) (x y : ℕ × MountEntry) (o p f q : List Line) : Type 0 where
  step : l ≡ k
  place : x.0 ≡ y.0
  reply : x.1.reply ≡ y.1.reply
  own_rest : o ≡ p
  far_rest : f ≡ q

-- the lines of the caller's calls from this one on are alike on both mounts
record AreAlike (l k : LinkStep) (x y : ℕ × MountEntry) (o p f q : List Line) : Type 0 where
  on_own : lines (own_part load_call l x) ++ o ≡ lines (own_part load_call k y) ++ p
  on_far : lines (far_part l x) ++ f ≡ lines (far_part k y) ++ q

-- the loading of a record before the call
abbrev look : List ℕ → ℕ → ℕ × MountEntry → Reply → ℕ × MountEntry
look label place x reply = (place, look_before load_call label x.1 reply)

both_alone : (x y : ℕ × MountEntry) (o p f q : List Line) → AreAlike Alone Alone x y o p f q → SameStep Alone Alone x y o p f q
both_alone x y o p f q told =
    let one = alike x y o p told.on_own in
    record { step = refl; place = one.place; reply = one.reply; own_rest = one.rest; far_rest = told.on_far }

both_followed : (n m : List ℕ) (r s : Reply) (t v : ℕ) (x y : ℕ × MountEntry) (o p f q : List Line) → n ≡ m
    → AreAlike (Followed n r t) (Followed m s v) x y o p f q → SameStep (Followed n r t) (Followed m s v) x y o p f q
both_followed n m r s t v x y o p f q label told =
    let one = alike (look n x.0 x r) (look m y.0 y s) o p told.on_own in
    let two = alike (t, x.1) (v, y.1) f q told.on_far in record {
      step = ap (λ (l : List ℕ). Followed l r t) label ∙ ap (λ (a : Reply). Followed m a t) one.reply
          ∙ ap (λ (u : ℕ). Followed m s u) two.place;
      place = one.place;
      reply = two.reply;
      own_rest = one.rest;
      far_rest = two.rest;
    }

-- a link is no other record
not_a_link : (label : List ℕ) (r s : Reply) → is_link label r ≡ true → is_link label s ≡ false → r ≡ s → ⊥
not_a_link label r s link other same = let both : true ≡ false = sym link ∙ ap (is_link label) same ∙ other in cc both

-- the first calls on the own mount had the same reply
first_reply : (a b : ℕ × MountEntry) (l k : List Line) → line_of a ∷ l ≡ line_of b ∷ k → a.1.reply ≡ b.1.reply
first_reply a b l k same = (alike a b l k same).reply

same_step : (asked : Asked) (l k : LinkStep) (x y : ℕ × MountEntry) (o p f q : List Line) → IsStepOf asked x.1.reply l
    → IsStepOf asked y.1.reply k → AreAlike l k x y o p f q → SameStep l k x y o p f q
same_step Other Alone Alone x y o p f q is so told = both_alone x y o p f q told
same_step Other Alone (Followed m s v) x y o p f q is so told = absurd (cc so)
same_step Other Alone (Looked m e s) x y o p f q is so told = absurd (cc so)
same_step Other Alone (NotMade m) x y o p f q is so told = absurd (cc so)
same_step Other (Followed n r t) k x y o p f q is so told = absurd (cc is)
same_step Other (Looked n d r) k x y o p f q is so told = absurd (cc is)
same_step Other (NotMade n) k x y o p f q is so told = absurd (cc is)
same_step (Load label) Alone Alone x y o p f q is so told = both_alone x y o p f q told
same_step (Load label) Alone (Followed m s v) x y o p f q is so told =
    absurd (not_a_link label s x.1.reply so.1 is (sym (first_reply x (look m y.0 y s) o p told.on_own)))
same_step (Load label) Alone (Looked m e s) x y o p f q is so told = absurd so
same_step (Load label) Alone (NotMade m) x y o p f q is so told = absurd so
same_step (Load label) (Followed n r t) Alone x y o p f q is so told =
    absurd (not_a_link label r y.1.reply is.1 so (first_reply (look n x.0 x r) y o p told.on_own))
same_step (Load label) (Followed n r t) (Followed m s v) x y o p f q is so told =
    both_followed n m r s t v x y o p f q (is.0 ∙ sym so.0) told
same_step (Load label) (Followed n r t) (Looked m e s) x y o p f q is so told = absurd so
same_step (Load label) (Followed n r t) (NotMade m) x y o p f q is so told = absurd so
same_step (Load label) (Looked n d r) k x y o p f q is so told = absurd is
same_step (Load label) (NotMade n) k x y o p f q is so told = absurd is
same_step (Store label) Alone k x y o p f q is so told = absurd is
same_step (Store label) (Followed n r t) Alone x y o p f q is so told = absurd so
same_step (Store label) (Followed n r t) (Followed m s v) x y o p f q is so told =
    both_followed n m r s t v x y o p f q (is.0 ∙ sym so.0) told
same_step (Store label) (Followed n r t) (Looked m e s) x y o p f q is so told =
    absurd (not_a_link label r s is.1 so.1 (first_reply (look n x.0 x r) (look m e y s) o (line_of y ∷ p) told.on_own))
same_step (Store label) (Followed n r t) (NotMade m) x y o p f q is so told =
    absurd (not_a_link label r (Refused NoMemory) is.1 refl (first_reply (look n x.0 x r) (look m y.0 y (Refused NoMemory)) o p told.on_own))
same_step (Store label) (Looked n d r) Alone x y o p f q is so told = absurd so
same_step (Store label) (Looked n d r) (Followed m s v) x y o p f q is so told =
    absurd (not_a_link label s r so.1 is.1 (sym (first_reply (look n d x r) (look m y.0 y s) (line_of x ∷ o) p told.on_own)))
same_step (Store label) (Looked n d r) (Looked m e s) x y o p f q is so told =
    let one = alike (look n d x r) (look m e y s) (line_of x ∷ o) (line_of y ∷ p) told.on_own in
    let two = alike x y o p one.rest in record {
      step = ap (λ (l : List ℕ). Looked l d r) (is.0 ∙ sym so.0) ∙ ap (λ (u : ℕ). Looked m u r) one.place
          ∙ ap (λ (a : Reply). Looked m e a) one.reply;
      place = two.place;
      reply = two.reply;
      own_rest = two.rest;
      far_rest = told.on_far;
    }
-- a record that was looked up is stored afterwards only if there was memory to look it up
same_step (Store label) (Looked n d r) (NotMade m) x y o p f q is so told =
    let none = first_reply (look n d x r) (look m y.0 y (Refused NoMemory)) (line_of x ∷ o) p told.on_own in
    let both : false ≡ true = sym is.2 ∙ ap is_out_of_memory none in absurd (cc both)
same_step (Store label) (NotMade n) Alone x y o p f q is so told = absurd so
same_step (Store label) (NotMade n) (Followed m s v) x y o p f q is so told =
    absurd (not_a_link label s (Refused NoMemory) so.1 refl (sym (first_reply (look n x.0 x (Refused NoMemory)) (look m y.0 y s) o p told.on_own)))
same_step (Store label) (NotMade n) (Looked m e s) x y o p f q is so told =
    let none = first_reply (look n x.0 x (Refused NoMemory)) (look m e y s) o (line_of y ∷ p) told.on_own in
    let both : false ≡ true = sym so.2 ∙ ap is_out_of_memory (sym none) in absurd (cc both)
same_step (Store label) (NotMade n) (NotMade m) x y o p f q is so told =
    let one = alike (look n x.0 x (Refused NoMemory)) (look m y.0 y (Refused NoMemory)) o p told.on_own in record {
      step = ap NotMade (is.0 ∙ sym so.0);
      place = one.place;
      reply = is.1 ∙ sym so.1;
      own_rest = one.rest;
      far_rest = told.on_far;
    }

-- each call has one on the own mount
some_own : (k : LinkStep) (y : ℕ × MountEntry) (rest : PlacedCalls) → [] ≡ lines (own_part load_call k y ++ rest) → ⊥
some_own Alone y rest same = cc same
some_own (Followed m s v) y rest same = cc same
some_own (Looked m e s) y rest same = cc same
some_own (NotMade m) y rest same = cc same

-- if the parts of a caller's calls have the same lines, the calls are the same, and so is what became of
-- each
pub same_odd : {A : Type 0} (steps rest last : Steps A) (ls : List LinkStep) (xs : PlacedCalls) (ks : List LinkStep) (ys : PlacedCalls)
    → Reaches steps (entries_of xs) rest → Reaches steps (entries_of ys) last → AreSteps ls xs → AreSteps ks ys
    → lines (own_parts load_call ls xs) ≡ lines (own_parts load_call ks ys) → lines (far_parts ls xs) ≡ lines (far_parts ks ys)
    → (ls ≡ ks) × (xs ≡ ys)
same_odd steps rest last [] (x ∷ xs) ks ys so to are were own far = absurd are
same_odd steps rest last (l ∷ ls) [] ks ys so to are were own far = absurd are
same_odd steps rest last [] [] [] [] so to are were own far = (refl, refl)
same_odd steps rest last [] [] [] (y ∷ ys) so to are were own far = absurd were
same_odd steps rest last [] [] (k ∷ ks) [] so to are were own far = absurd were
same_odd steps rest last [] [] (k ∷ ks) (y ∷ ys) so to are were own far = absurd (some_own k y (own_parts load_call ks ys) own)
same_odd steps rest last (l ∷ ls) (x ∷ xs) [] [] so to are were own far = absurd (some_own l x (own_parts load_call ls xs) (sym own))
same_odd steps rest last (l ∷ ls) (x ∷ xs) [] (y ∷ ys) so to are were own far = absurd were
same_odd steps rest last (l ∷ ls) (x ∷ xs) (k ∷ ks) [] so to are were own far = absurd were
same_odd (Done value) rest last (l ∷ ls) (x ∷ xs) (k ∷ ks) (y ∷ ys) so to are were own far = absurd so
same_odd (Ask who call next) rest last (l ∷ ls) (x ∷ xs) (k ∷ ks) (y ∷ ys) so to are were own far =
    let called : x.1.call ≡ y.1.call = so.1 ∙ sym to.1 in
    let was = subst (λ (c : Call). IsStepOf (asked_of c.op) y.1.reply k) (sym called) were.0 in
    let one = same_step (asked_of x.1.call.op) l k x y (lines (own_parts load_call ls xs)) (lines (own_parts load_call ks ys))
    (lines (far_parts ls xs)) (lines (far_parts ks ys)) are.0 was
    (record {
      on_own = sym (map-append line_of (own_part load_call l x) (own_parts load_call ls xs)) ∙ own
          ∙ map-append line_of (own_part load_call k y) (own_parts load_call ks ys);
      on_far = sym (map-append line_of (far_part l x) (far_parts ls xs)) ∙ far
          ∙ map-append line_of (far_part k y) (far_parts ks ys);
    }) in
    let more = subst (λ (r : Reply). Reaches (next r) (entries_of ys) last) (sym one.reply) to.2 in
    let others = same_odd (next x.1.reply) rest last ls xs ks ys so.2 more are.1 were.1 one.own_rest one.far_rest in (
      ap₂ (λ (s : LinkStep) (ss : List LinkStep). s ∷ ss) one.step others.0,
      same_call x y xs ys one.place (so.0 ∙ sym to.0) called one.reply others.1,
    )
