-- The empty mount is well formed.
use Rattle.std.proofs.Common.{◌≡◌, ℕ, ◌≤◌, true, false, [], Option, Some, None, is_some, sym, refl, ap, ◌∙◌, arith}
use Rattle.std.specs.Option.{unwrap_or}
use Rattle.std.specs.Map.{lookup}
use Rattle.std.specs.Str.{bytes_eq}
use Rattle.std.specs.List.{IsDistinct}
use Rattle.std.specs.FinMap as map
use Rattle.std.specs.FinMap.{get-empty}
use Rattle.std.specs.Ordering.{nat_cmp}
use Rattle.std.proofs.lemmas.Bool.{true≢false}
use Rattle.number_map.specs.Numbered.{empty, get}
use Rattle.number_map.proofs.TotalLemmas.{total_added, total_empty}
use Rattle.plain_tree.specs.Nodes.{Dir, Node, Nodes, contents_of}
use Rattle.plain_tree.specs.NodesByNumber.{is_named_in}
use Rattle.plain_tree.specs.Changes.{first_nodes}
use Rattle.plain_tree.specs.Facts.{EachNode}
use Rattle.plain_tree.proofs.FactLemmas.{each_inserted}
use Rattle.plain_tree.proofs.FirstLemmas.{first_children, first_tree, first_sealed}
use Rattle.mount_limits.specs.declared.TheConstants.{MAX_BLOCKS}
use Rattle.mount_model.specs.PlainMount.{empty_mount}
use Rattle.mount_model.specs.OpenHandles.{opens_of}
use Rattle.mount_model.specs.Sealed.{texts}
use Rattle.mount_model.specs.Blocks.{block_count, block_total}
use Rattle.mount_model.specs.WellFormed.{IsWellFormed}
use Rattle.mount_model.specs.SoundHandles.{HasHandles, is_same_handle}
use Rattle.mount_model.specs.SoundNodes.{IsBody, HasRaw, HasNodes}
use Rattle.mount_model.proofs.KeyLemmas.{HasKeys-empty}
use Rattle.mount_model.proofs.RecordLemmas.{HasRecords-empty}

abbrev none_yet : Nodes
none_yet = empty

-- what holds of the root holds of each first node
each_first : (P : ℕ → Node → Type 0) → P 0 (record { named = true; context = None; body = Dir [] }) → EachNode P first_nodes
each_first P holds = each_inserted P none_yet (λ x v there. let none : None ≡ Some v = sym (get-empty nat_cmp x) ∙ there in absurd (cc)) 0 (record { named = true; context = None; body = Dir [] }) holds

abbrev blocks_in : Node → ℕ
blocks_in v = block_count (contents_of v.body)

first_blocks : block_total first_nodes ≤ MAX_BLOCKS
unfolding block_total
first_blocks =
    let one = total_added blocks_in none_yet 0 (record { named = true; context = None; body = Dir [] }) (get-empty nat_cmp 0) in
    omega (arith, one, total_empty blocks_in)

HasNodes-first : HasNodes map.empty first_nodes 1
HasNodes-first = record {
  tree = first_tree;
  sealed = first_sealed (texts map.empty);
  names = λ d name x found. let none : None ≡ Some x = sym (ap (lookup (bytes_eq name)) (first_children d)) ∙ found in absurd (cc);
  bodies = each_first (λ n v. IsBody v.body) tt;
  policies = each_first (λ n v. HasRaw map.empty v.context) tt;
  numbers = omega arith;
  blocks = first_blocks;
}

first_named : (n : ℕ) (v : Node) → get first_nodes n ≡ Some v → v.named ≡ true
first_named = each_first (λ n v. v.named ≡ true) refl

no_handles : IsDistinct is_same_handle []
unfolding IsDistinct
no_handles = tt

HasHandles-first : HasHandles first_nodes [] map.empty
HasHandles-first = record {
  on = λ n held. absurd (true≢false (sym held));
  nameless = λ n there none. absurd (by_case n (get first_nodes n) refl there none);
  numbered = λ caller number live. absurd (true≢false (sym live));
  distinct = no_handles;
  few = omega arith;
  few_opens = λ caller. let none : opens_of map.empty caller ≡ 0 = ap (λ o. unwrap_or o 0) (get-empty nat_cmp caller) in omega (arith, none);
}
  where
    by_case : (n : ℕ) (o : Option Node) → get first_nodes n ≡ o → is_some o ≡ true → is_named_in o ≡ false → ⊥
    by_case n None is there none = true≢false (sym there)
    by_case n (Some v) is there none = true≢false (sym (first_named n v is) ∙ none)

pub empty_well : IsWellFormed empty_mount
empty_well = record { keys = HasKeys-empty; nodes = HasNodes-first; handles = HasHandles-first; records = HasRecords-empty }
