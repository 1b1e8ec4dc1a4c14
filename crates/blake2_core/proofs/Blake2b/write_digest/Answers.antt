use Rattle.std.proofs.Common.{rules, ◌≡◌, ℕ, ◌-◌, arith, length, replicate, refl, ◌∙◌}
use Rattle.blake2_core.specs.Digest.{blake2b_digest, last_block}
use Rattle.blake2_core.proofs.Following.{Holds-Follows, put_mid-zeros, compressed_last}
use Rattle.blake2_core.proofs.Blake2b.write_digest.Goals as goal

pub returns : goal.returns
unfolding blake2b_digest
returns c = λ m held.
    let n : ℕ = last_block m in
    let f = Holds-Follows c.args.self.now m held in
    let zeros : c.fill.new.self ≡ replicate (128 - c.args.self.now.used) 0 = search rules in
    let filled = put_mid-zeros c.args.self.now m c.fill.new.self n (128 - c.args.self.now.used) f (omega arith) (omega arith) refl zeros in
    let state = (rw filled at c.compress.ensures) ∙ compressed_last c.args.self.now m _ n f (omega arith) in
    let size : length c.args.out.now ≡ c.args.self.now.size = omega arith in
    c.copy_from_slice.ensures.after ∙ rw (size, c.write_words.ensures, state) refl
