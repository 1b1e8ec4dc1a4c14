-- The bytes from the old end on are the stored name, and then the plain one.
use Rattle.std.proofs.Common.{rules, ◌≡◌, ℕ, List, [], ◌∷◌, ◌++◌, length, take, drop, ap, ◌∙◌, arith}
use Rattle.std.proofs.lemmas.List.{take_at, drop_at}
use Rattle.name_crypt.specs.StoredName.{plain_name}
use Rattle.plain_tree.specs.Nodes.{Name}
use Rattle.mount_names.specs.PackedNames.{parts_of}
use Rattle.mount_names.proofs.PackedLemmas.{one_more}
use Rattle.mount_names.proofs.packed_names.PackedNames.push_decrypted.Goals as goal

pub returns-clause-pushed : goal.returns-clause-pushed
returns-clause-pushed c = λ named.
    let old = c.self.inside in
    let stored : List ℕ = c.args.stored.now in
    let plain_of : List ℕ → List ℕ = λ bytes. plain_name c.args.cipher.now.key c.args.cipher.now.start bytes in
    let from : ℕ = c.len-start.result in
    let start : length old.bytes.items ≡ from = search (rules, arith) in
    let grown : c.extend_from_slice.new.self.items ≡ old.bytes.items ++ stored = c.in_ok-extend_from_slice.ensures.items in
    let kept : take from c.extend_from_slice.new.self.items ≡ old.bytes.items = ap (take from) grown ∙ take_at old.bytes.items stored from start in
    let added : drop from c.extend_from_slice.new.self.items ≡ stored = ap (drop from) grown ∙ drop_at old.bytes.items stored from start in
    let bytes : c.decrypt_end-len.new.bytes.items ≡ old.bytes.items ++ plain_of stored
    = c.decrypt_end-len.ensures.text ∙ (λ i. kept i ++ plain_of (added i)) in
    let len : c.decrypt_end-len.result ≡ length (plain_of stored) = c.decrypt_end-len.ensures.len ∙ ap (λ v. length (plain_of v)) added in
    let lens : c.push_reserved.new.self.items ≡ old.lens.items ++ length (plain_of stored) ∷ []
    = c.push_reserved.ensures.items ∙ (λ i. c.in_ok-reserve.ensures.items i ++ len i ∷ []) in
    let was : parts_of old.lens.items old.bytes.items ≡ c.args.self.now = search rules in
    let both : parts_of c.push_reserved.new.self.items c.decrypt_end-len.new.bytes.items ≡ parts_of (old.lens.items ++ length (plain_of stored) ∷ []) (old.bytes.items ++ plain_of stored)
    = λ i. parts_of (lens i) (bytes i) in
    both ∙ (one_more old.lens.items old.bytes.items (plain_of stored) c.self.invariant ∙ ap (λ (xs : List Name). xs ++ plain_of stored ∷ []) was)
