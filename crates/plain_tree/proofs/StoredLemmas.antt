-- The entries of a directory as they are stored, and as they are plain.
use Rattle.std.proofs.Common.{◌≡◌, ℕ, true, false, cond, [], ◌∷◌, Some, is_some, bytes_eq, inl, inr, refl, sym, ap, ◌∙◌}
use Rattle.std.specs.Map.{lookup}
use Rattle.plain_tree.specs.Nodes.{Name, Children}
use Rattle.plain_tree.specs.BodyChanges.{without_child}
use Rattle.plain_tree.specs.Stored.{stored_children, IsNameOf, SearchesAgree, PutsAgree, RemovalsAgree, StoredFormsDiffer}
use Rattle.plain_tree.proofs.ChildLemmas.{itself, other_name, cases_name}

-- a name of the entries after the first, and the first name itself
pub name_behind : (e : Name × ℕ) (cs : Children) (a : Name) → IsNameOf cs a → IsNameOf (e ∷ cs) a
name_behind e cs a there = elim (bytes_eq a e.0) as (λ b. is_some (cond b (Some e.1) (lookup (bytes_eq a) cs)) ≡ true) [ true ↦ refl | false ↦ there ]

pub name_front : (e : Name × ℕ) (cs : Children) → IsNameOf (e ∷ cs) e.0
name_front e cs = ap (λ b. is_some (cond b (Some e.1) (lookup (bytes_eq e.0) cs))) (itself e.0)

pub searches_agree : SearchesAgree
searches_agree store stored plain [] agree = refl
searches_agree store stored plain (e ∷ cs) agree =
    ap (λ b. cond b (Some e.1) (lookup stored (stored_children store cs))) (agree e.0 (name_front e cs))
    ∙ ap (cond (plain e.0) (Some e.1)) (searches_agree store stored plain cs (λ a there. agree a (name_behind e cs a there)))

pub puts_agree : PutsAgree
puts_agree store name x [] = refl
puts_agree store name x (e ∷ cs) = ap (λ rest. (store e.0, e.1) ∷ rest) (puts_agree store name x cs)

pub removals_agree : RemovalsAgree
removals_agree store name [] apart = refl
removals_agree store name (e ∷ cs) apart =
    elim (cases_name name e.0) [
      | inl is ↦
          ap (λ b. stored_children store (cond b cs (e ∷ without_child name cs))) (ap (bytes_eq name) (sym is) ∙ itself name)
          ∙ sym (ap (λ b. cond b (stored_children store cs) ((store e.0, e.1) ∷ without_child (store name) (stored_children store cs)))
          (ap (λ n. bytes_eq (store name) (store n)) (sym is) ∙ itself (store name)))
      | inr differ ↦
          ap (λ b. stored_children store (cond b cs (e ∷ without_child name cs))) (other_name name e.0 differ)
          ∙ ap (λ rest. (store e.0, e.1) ∷ rest) (removals_agree store name cs (λ a there. apart a (name_behind e cs a there)))
          ∙ sym (ap (λ b. cond b (stored_children store cs) ((store e.0, e.1) ∷ without_child (store name) (stored_children store cs)))
          (other_name (store name) (store e.0) (λ same. differ (apart e.0 (name_front e cs) same))))
    ]

pub stored_differ : StoredFormsDiffer
stored_differ store text show cs is apart a b one two same = apart a b one two (is a ∙ ap show same ∙ sym (is b))
