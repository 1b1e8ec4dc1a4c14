-- Names in the order of their bytes: of the same names there is one list in order.
use Rattle.std.proofs.Common.{drop, ◌≡◌, ℕ, ◌<◌, ◌++◌, Some, Bool, true, false, cond, not, List, [], ◌∷◌, map, ◌⊎◌, refl, sym, ap, subst, ◌∙◌}
use Rattle.std.specs.List.{sum_by, AllZip}
use Rattle.std.specs.Ordering.{nat_cmp, is_lt, is_eq}
use Rattle.std.specs.Cmp.{IsStrictWeakOrder}
use Rattle.std.specs.Cmp.Lexicographic.{slice_cmp, nat_list_cmp_total}
use Rattle.std.proofs.lemmas.List.{append_assoc, append-nil}
use Rattle.std.proofs.lemmas.List.MinMax.{ranks_by}
use Rattle.std.proofs.lemmas.Map.Text.{is_eq-slice_cmp}
use Rattle.byte_words.specs.Bytes.{AreBytes}
use Rattle.name_crypt.specs.Plain.{IsPlain}
use Rattle.plain_tree.specs.Nodes.{Name, Children}
use Rattle.plain_tree.specs.NodesByNumber.{children, context_at, is_dir_at}
use Rattle.plain_tree.specs.Stored.{IsNameOf, stored_children}
use Rattle.plain_tree.proofs.ChildLemmas.{same_name}
use Rattle.plain_tree.proofs.StoredLemmas.{name_behind, name_front}
use Rattle.number_map.specs.Numbered.{get}
use Rattle.disk_tree.specs.DiskTree.{Disk, IsDirAt, of_node, entries_in, children as stored_entries}
use Rattle.disk_tree.specs.Nodes.{IsDir, entries_of}
use Rattle.disk_tree.specs.declared.node.StoredNode.{StoredNode}
use Rattle.disk_tree.specs.declared.node.Body.TheVariants as stored
use Rattle.disk_tree.specs.Entries.{Entries}
use Rattle.mount_model.specs.ListAnswers.{put_in_order, in_order, page_of, page_at}
use Rattle.mount_model.specs.declared.reply.Reply.{Reply}
use Rattle.mount_model.specs.declared.reply.Refusal.TheVariants.{NotDir}
use Rattle.mount_model.specs.PlainMount.{PlainMount}
use Rattle.mount_model.specs.AnswerForms.{Answer, refusal_with, unchanged_with}
use Rattle.mount_model.specs.States.{shown}
use Rattle.mount_model.specs.WellFormed.{IsWellFormed}
use Rattle.mount_state.specs.Stored.{stored_form}
use Rattle.mount_state.specs.Represents.{RepresentsTree}
use Rattle.mount_state.proofs.OrderLemmas as orders
use Rattle.mount_state.proofs.EntryLemmas.{children_stand, name_there}
use Rattle.mount_names.specs.declared.reading.Reading.{Reading}
use Rattle.mount_names.specs.declared.reading.Reading.TheVariants.{Plain}
use Rattle.mount_names.specs.VisibleNames.{ShowsAs}
use Rattle.mount_names.specs.NamePages.{IsPageOf}
use Rattle.mount_names.proofs.PlaceLemmas.{name_plain}

-- ---- the order of names

abbrev pub below : Name → Name → Bool
below a b = is_lt (slice_cmp nat_cmp a b)

pub order : IsStrictWeakOrder below
order = ranks_by nat_list_cmp_total (λ (x : Name). x)

pub same_names : (a b : Name) → is_eq (slice_cmp nat_cmp a b) ≡ true → a ≡ b
same_names a b tie = same_name a b (sym (is_eq-slice_cmp a b) ∙ tie)

abbrev pub one : Name → Name → ℕ
one z x = cond (is_eq (slice_cmp nat_cmp z x)) 1 0

abbrev pub count : Name → List Name → ℕ
count z xs = sum_by (one z) xs

pub at_head : (x : Name) (xs : List Name) → 0 < count x (x ∷ xs)
at_head = orders.at_head (slice_cmp nat_cmp) nat_list_cmp_total same_names

pub head_or_behind : (z x : Name) (xs : List Name) → 0 < count z (x ∷ xs) → (z ≡ x) ⊎ (0 < count z xs)
head_or_behind = orders.head_or_behind (slice_cmp nat_cmp) nat_list_cmp_total same_names

abbrev pub Rises : List Name → Type 0
Rises xs = orders.Rises (slice_cmp nat_cmp) nat_list_cmp_total same_names xs

pub unique : (xs ys : List Name) → Rises xs → Rises ys → ((z : Name) → count z xs ≡ count z ys) → xs ≡ ys
unique = orders.unique (slice_cmp nat_cmp) nat_list_cmp_total same_names

pub order_count : (z : Name) (xs : List Name) → count z (in_order xs) ≡ count z xs
order_count = orders.order_count (slice_cmp nat_cmp) nat_list_cmp_total same_names put_in_order (λ x. refl) (λ x y ys. refl) in_order refl (λ x xs. refl)

pub order_rises : (xs : List Name) → Rises (in_order xs)
order_rises = orders.order_rises (slice_cmp nat_cmp) nat_list_cmp_total same_names put_in_order (λ x. refl) (λ x y ys. refl) in_order refl (λ x xs. refl)

-- ---- the visible names of entries

module _ (reading : Reading) where
  -- the names that are done already, with the visible names of the entries that are left, are all
  abbrev pub StillShown : Entries → List Name → List Name → Type 0
  StillShown left done all = (rest : List Name) × AllZip (λ e. ShowsAs reading e.0) left rest × (done ++ rest ≡ all)

  pub first_shown : (es left : Entries) (done all : List Name) → left ≡ es → done ≡ [] → AllZip (λ e. ShowsAs reading e.0) es all → StillShown left done all
  first_shown es left done all is none shows =
      (all, subst (λ (x : Entries). AllZip (λ e. ShowsAs reading e.0) x all) (sym is) shows, ap (λ (xs : List Name). xs ++ all) none)

  pub next_shown : (e : List ℕ × ℕ) (before left : Entries) (done more all : List Name) → before ≡ e ∷ left
      → ((name : Name) → ShowsAs reading e.0 name → more ≡ done ++ name ∷ []) → StillShown before done all → StillShown left more all
  next_shown e [] left done more all is put still = absurd (cc)
  next_shown e (f ∷ before) left done more all is put ([], shows, same) = absurd shows
  next_shown e (f ∷ before) left done more all is put ((n ∷ ns), shows, same) =
      let here : f ≡ e = ap (λ (xs : Entries). head_of f xs) is in
      let behind : before ≡ left = ap (λ (xs : Entries). drop 1 xs) is in (
        ns,
        subst (λ (xs : Entries). AllZip (λ x. ShowsAs reading x.0) xs ns) behind shows.1,
        ap (λ (xs : List Name). xs ++ ns) (put n (subst (λ (x : List ℕ × ℕ). ShowsAs reading x.0 n) here shows.0)) ∙ (append_assoc done (n ∷ []) ns ∙ same),
      )
    where
      head_of : List ℕ × ℕ → Entries → List ℕ × ℕ
      head_of d [] = d
      head_of d (x ∷ xs) = x

  pub all_shown : (left : Entries) (done all : List Name) → left ≡ [] → StillShown left done all → done ≡ all
  all_shown [] done all none ([], shows, is) = sym (append-nil done) ∙ is
  all_shown [] done all none ((n ∷ ns), shows, is) = absurd shows
  all_shown (e ∷ left) done all some still = absurd (cc)

  pub each_shown : (store show : Name → List ℕ) (cs : Children) → ((name : Name) → IsNameOf cs name → ShowsAs reading (store name) (show name))
      → AllZip (λ e. ShowsAs reading e.0) (stored_children store cs) (map (λ e. show e.0) cs)
  each_shown store show [] each = tt
  each_shown store show (c ∷ cs) each =
      (each c.0 (name_front c cs), each_shown store show cs (λ name there. each name (name_behind c cs name there)))

-- read plain, the visible names of entries are their stored names
pub stored_as_shown : (es : Entries) (ns : List Name) → AllZip (λ e. ShowsAs Plain e.0) es ns → ns ≡ map (λ e. e.0) es
stored_as_shown [] [] shows = refl
stored_as_shown [] (n ∷ ns) shows = absurd shows
stored_as_shown (e ∷ es) [] shows = absurd shows
stored_as_shown (e ∷ es) (n ∷ ns) shows =
    let first : n ≡ e.0 = shows.0.0 in
    let rest : ns ≡ map (λ x. x.0) es = stored_as_shown es ns shows.1 in
    λ i. first i ∷ rest i

-- ---- what is returned of a directory

pub page_leaves : (m : PlainMount) (start d : ℕ) → (page_at m start d).mount ≡ m
page_leaves m start d = elim (is_dir_at m.nodes d) as (λ b. (let a : Answer = cond (not b) (refusal_with m NotDir) (unchanged_with m (page_of m d start)) in a.mount) ≡ m) [
  | true ↦ refl
  | false ↦ refl
]

module _ (m : PlainMount) (start d : ℕ) where
  pub no_dir : is_dir_at m.nodes d ≡ false → page_at m start d ≡ refusal_with m NotDir
  no_dir is = ap (λ b. cond (not b) (refusal_with m NotDir) (unchanged_with m (page_of m d start))) is

  pub at_dir : is_dir_at m.nodes d ≡ true → page_at m start d ≡ unchanged_with m (page_of m d start)
  at_dir is = ap (λ b. cond (not b) (refusal_with m NotDir) (unchanged_with m (page_of m d start))) is

-- a page of the directory's entries is the page that the mount answers
pub page_is : (disk : Disk) (next : ℕ) (m : PlainMount) → IsWellFormed m → RepresentsTree disk next m → (d start : ℕ) (reading : Reading)
    → ((name : Name) → IsPlain name → AreBytes name → ShowsAs reading (stored_form m.raws d (context_at m.nodes d) name) (shown m d name))
    → (reply : Reply) → IsPageOf reading (stored_entries disk d) start reply → reply ≡ page_of m d start
page_is disk next m well tree d start reading reads reply tells =
    tells (map (λ e. shown m d e.0) (children m.nodes d))
    (subst (λ (es : Entries). AllZip (λ e. ShowsAs reading e.0) es (map (λ e. shown m d e.0) (children m.nodes d))) (sym (children_stand disk next m well tree d))
    (each_shown reading (stored_form m.raws d (context_at m.nodes d)) (shown m d) (children m.nodes d)
    (λ name there. let is = name_there disk next m well tree d name there in reads name (name_plain name is) is.0.bytes)))

-- the directory whose entries are on the disk
module _ (disk : Disk) (d : ℕ) (w : StoredNode) (es : Entries) (there : Some w ≡ get disk d) (is : w.body ≡ stored.Dir es) where
  pub dir_there : IsDirAt disk d
  dir_there = subst (of_node ⊥ (λ node. IsDir node.body)) there (subst IsDir (sym is) tt)

  pub entries_there : es ≡ stored_entries disk d
  entries_there = sym (ap entries_of is) ∙ ap entries_in there
