-- A protector's record after its key was wrapped again.
use Rattle.std.specs.Prelude.{ℕ, List}
use Rattle.key_wrap.specs.Wrapping.{wrapped_secret}
use Rattle.protector_meta.specs.declared.protector.ProtectorKind.{ProtectorKind}
use Rattle.protector_meta.specs.declared.protector.Protector.{Protector}

-- the kind and the iv are those given, the key and the tag are what wrapping gives, and the name and the
-- descriptor stay
abbrev pub rewrapped_protector : Protector → ProtectorKind → List ℕ → List ℕ → List ℕ → Protector
rewrapped_protector p kind wrapping iv key =
    record p {
      kind = kind;
      iv = iv;
      key = (wrapped_secret wrapping iv key).0;
      tag = (wrapped_secret wrapping iv key).1;
    }
