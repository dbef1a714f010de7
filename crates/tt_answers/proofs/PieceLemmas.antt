-- The pieces of an answer, one after another.
use Rattle.std.specs.Prelude.{if◌then◌else◌}
use Rattle.std.proofs.Common.{◌≡◌, ℕ, ◌==◌, Bool, false, List, [], ◌∷◌, ◌++◌, map, ap, sym, ◌∙◌, append_assoc, append-nil, codes}
use Rattle.std.specs.List.{flat_map}
use Rattle.std.proofs.lemmas.Grind.{flat_map-append}
use Rattle.std.proofs.lemmas.List.{map-append}
use Rattle.std.specs.Fmt.{decimal}
use Rattle.tt_requests.specs.declared.told.ToldTime.{ToldTime}
use Rattle.tt_requests.specs.Numbers.{Numbering}
use Rattle.tt_grammar.specs.JsonText.{Member, number_member, further_item, member_text}
use Rattle.tt_answers.specs.AnswerText.{horizon_members}

-- an object of two numbers, first members, further members that begin with some behind a comma and a value, and more members
pub slot-pieces : (out one two stamped label_3 three label_4 four more all name_1 number_1 name_2 number_2 first comma members name_4 value_4 last further end : List ℕ)
    → further ≡ first ++ (comma ++ (members ++ (name_4 ++ (value_4 ++ last)))) → one ≡ out ++ (name_1 ++ number_1) → two ≡ one ++ (name_2 ++ number_2) → stamped ≡ two ++ first
    → label_3 ≡ stamped ++ comma → three ≡ label_3 ++ members → label_4 ≡ three ++ name_4 → four ≡ label_4 ++ value_4 → more ≡ four ++ last → all ≡ more ++ end
    → all ≡ out ++ (name_1 ++ ((number_1 ++ (name_2 ++ (number_2 ++ further))) ++ end))
slot-pieces out one two stamped label_3 three label_4 four more all name_1 number_1 name_2 number_2 first comma members name_4 value_4 last further end e p q h r s t u v w =
    w ∙ ap (λ o. o ++ end) (v ∙ ap (λ o. o ++ last) (u ∙ ap (λ o. o ++ value_4) (t ∙ ap (λ o. o ++ name_4) (s ∙ ap (λ o. o ++ members)
    (r ∙ ap (λ o. o ++ comma) (h ∙ ap (λ o. o ++ first) (q ∙ ap (λ o. o ++ (name_2 ++ number_2)) p)))))))
    ∙ whole
    ∙ ap (λ f. out ++ (name_1 ++ ((number_1 ++ (name_2 ++ (number_2 ++ f))) ++ end))) (sym e)
  where
    whole : (((((((((out ++ (name_1 ++ number_1)) ++ (name_2 ++ number_2)) ++ first) ++ comma) ++ members) ++ name_4) ++ value_4) ++ last) ++ end)
        ≡ out ++ (name_1 ++ ((number_1 ++ (name_2 ++ (number_2 ++ (first ++ (comma ++ (members ++ (name_4 ++ (value_4 ++ last)))))))) ++ end))
    whole = simp append_assoc

-- members behind others
pub further-append : (first others : List Member)
    → flat_map further_item (map member_text (first ++ others)) ≡ flat_map further_item (map member_text first) ++ flat_map further_item (map member_text others)
further-append first others = ap (flat_map further_item) (map-append member_text first others) ∙ flat_map-append further_item (map member_text first) (map member_text others)

-- members, a member, and more members
pub further-change : (first : List Member) (member : Member) (second last : List Member)
    → flat_map further_item (map member_text (first ++ member ∷ (second ++ last)))
    ≡ flat_map further_item (map member_text first) ++ (further_item (member_text member) ++ (flat_map further_item (map member_text second) ++ flat_map further_item (map member_text last)))
further-change first member second last =
    further-append first (member ∷ (second ++ last))
    ∙ ap (λ m. flat_map further_item (map member_text first) ++ (further_item (member_text member) ++ m)) (further-append second last)

-- an object of a number, and of further members in four parts
pub changed-pieces : (out one two three four five all name number first member second last further end : List ℕ) → further ≡ first ++ (member ++ (second ++ last))
    → one ≡ out ++ (name ++ number) → two ≡ one ++ first → three ≡ two ++ member → four ≡ three ++ second → five ≡ four ++ last → all ≡ five ++ end
    → all ≡ out ++ (name ++ ((number ++ further) ++ end))
changed-pieces out one two three four five all name number first member second last further end e p q r s t u =
    u ∙ ap (λ o. o ++ end) (t ∙ ap (λ o. o ++ last) (s ∙ ap (λ o. o ++ second) (r ∙ ap (λ o. o ++ member) (q ∙ ap (λ o. o ++ first) p))))
    ∙ whole
    ∙ ap (λ f. out ++ (name ++ ((number ++ f) ++ end))) (sym e)
  where
    whole : (((((out ++ (name ++ number)) ++ first) ++ member) ++ second) ++ last) ++ end ≡ out ++ (name ++ ((number ++ (first ++ (member ++ (second ++ last)))) ++ end))
    whole = simp append_assoc

-- members: a number, a value, and two numbers
pub declared-pieces : (out one label_2 two three all name_1 number_1 name_2 value_2 name_3 number_3 name_4 number_4 : List ℕ)
    → one ≡ out ++ (name_1 ++ number_1) → label_2 ≡ one ++ name_2 → two ≡ label_2 ++ value_2 → three ≡ two ++ (name_3 ++ number_3)
    → all ≡ three ++ (name_4 ++ number_4)
    → all ≡ out ++ (name_1 ++ (number_1 ++ (name_2 ++ (value_2 ++ (name_3 ++ (number_3 ++ (name_4 ++ (number_4 ++ []))))))))
declared-pieces out one label_2 two three all name_1 number_1 name_2 value_2 name_3 number_3 name_4 number_4 p q r s t =
    t ∙ ap (λ o. o ++ (name_4 ++ number_4)) (s ∙ ap (λ o. o ++ (name_3 ++ number_3)) (r ∙ ap (λ o. o ++ value_2) (q ∙ ap (λ o. o ++ name_2) p)))
    ∙ simp (append_assoc, append-nil)

-- members: four numbers and a value, and more members
pub status-pieces : (out one two three four label_5 five all name_1 number_1 name_2 number_2 name_3 number_3 name_4 number_4 name_5 value_5 last : List ℕ)
    → one ≡ out ++ (name_1 ++ number_1) → two ≡ one ++ (name_2 ++ number_2) → three ≡ two ++ (name_3 ++ number_3) → four ≡ three ++ (name_4 ++ number_4)
    → label_5 ≡ four ++ name_5 → five ≡ label_5 ++ value_5 → all ≡ five ++ last
    → all ≡ out ++ (name_1 ++ (number_1 ++ (name_2 ++ (number_2 ++ (name_3 ++ (number_3 ++ (name_4 ++ (number_4 ++ (name_5 ++ (value_5 ++ last))))))))))
status-pieces out one two three four label_5 five all name_1 number_1 name_2 number_2 name_3 number_3 name_4 number_4 name_5 value_5 last p q r s t u v =
    v ∙ ap (λ o. o ++ last) (u ∙ ap (λ o. o ++ value_5) (t ∙ ap (λ o. o ++ name_5) (s ∙ ap (λ o. o ++ (name_4 ++ number_4))
    (r ∙ ap (λ o. o ++ (name_3 ++ number_3)) (q ∙ ap (λ o. o ++ (name_2 ++ number_2)) p)))))
    ∙ simp append_assoc

-- the horizon behind other members, where something was forgotten
pub horizon-piece : (numbering : Numbering) (told : ToldTime) (out all : List ℕ) → told ≡ record { number = numbering.horizon } → (numbering.horizon == 0) ≡ false
    → all ≡ out ++ (codes ",\"horizon\":" ++ decimal told.number) → all ≡ out ++ flat_map further_item (map member_text (horizon_members numbering))
horizon-piece numbering told out all is forgotten p =
    let members : Bool → List Member = λ b. if b then [] else number_member (codes "horizon") numbering.horizon ∷ [] in
    p
    ∙ ap (λ (t : ToldTime). out ++ (codes ",\"horizon\":" ++ decimal t.number)) is
    ∙ ap (λ d. out ++ (codes ",\"horizon\":" ++ d)) (sym (append-nil (decimal numbering.horizon)))
    ∙ ap (λ b. out ++ flat_map further_item (map member_text (members b))) (sym forgotten)

-- members: a number, and a value
pub number-value : (out first label all name_1 number name_2 value : List ℕ) → first ≡ out ++ (name_1 ++ number) → label ≡ first ++ name_2 → all ≡ label ++ value
    → all ≡ out ++ (name_1 ++ (number ++ (name_2 ++ (value ++ []))))
number-value out first label all name_1 number name_2 value p q r =
    r ∙ ap (λ o. o ++ value) (q ∙ ap (λ o. o ++ name_2) p) ∙ simp (append_assoc, append-nil)

-- members: two numbers
pub two-numbers : (out first all name_1 number_1 name_2 number_2 : List ℕ) → first ≡ out ++ (name_1 ++ number_1) → all ≡ first ++ (name_2 ++ number_2)
    → all ≡ out ++ (name_1 ++ (number_1 ++ (name_2 ++ (number_2 ++ []))))
two-numbers out first all name_1 number_1 name_2 number_2 p q = q ∙ ap (λ o. o ++ (name_2 ++ number_2)) p ∙ simp (append_assoc, append-nil)

-- a member that is an object of two values
pub object-member : (out first second all label_1 value_1 label_2 value_2 end : List ℕ) → first ≡ out ++ (label_1 ++ value_1) → second ≡ first ++ (label_2 ++ value_2)
    → all ≡ second ++ end → all ≡ out ++ (label_1 ++ (((value_1 ++ (label_2 ++ (value_2 ++ []))) ++ end) ++ []))
object-member out first second all label_1 value_1 label_2 value_2 end p q r =
    r ∙ ap (λ o. o ++ end) (q ∙ ap (λ o. o ++ (label_2 ++ value_2)) p) ∙ simp (append_assoc, append-nil)

-- members: a value, and a number behind its name
pub value-number : (out first second third all label value comma name colon number : List ℕ) → first ≡ out ++ (label ++ value) → second ≡ first ++ (comma ++ name)
    → third ≡ second ++ colon → all ≡ third ++ number → all ≡ out ++ (label ++ (value ++ (comma ++ ((name ++ (colon ++ number)) ++ []))))
value-number out first second third all label value comma name colon number p q r s =
    s ∙ ap (λ o. o ++ number) (r ∙ ap (λ o. o ++ colon) (q ∙ ap (λ o. o ++ (comma ++ name)) p)) ∙ simp (append_assoc, append-nil)

-- members: three values, and another one
pub three-values : (out first second label third all name_1 value_1 name_2 value_2 name_3 value_3 last : List ℕ) → first ≡ out ++ (name_1 ++ value_1)
    → second ≡ first ++ (name_2 ++ value_2) → label ≡ second ++ name_3 → third ≡ label ++ value_3 → all ≡ third ++ last
    → all ≡ out ++ (name_1 ++ (value_1 ++ (name_2 ++ (value_2 ++ (name_3 ++ (value_3 ++ last))))))
three-values out first second label third all name_1 value_1 name_2 value_2 name_3 value_3 last p q r s t =
    t ∙ ap (λ o. o ++ last) (s ∙ ap (λ o. o ++ value_3) (r ∙ ap (λ o. o ++ name_3) (q ∙ ap (λ o. o ++ (name_2 ++ value_2)) p)))
    ∙ simp append_assoc

-- an object of a row, by its table and its key, and of two values
pub row-values-object : (out one label_3 three label_4 four all name_1 table name_2 key name_3 value_3 name_4 value_4 end : List ℕ)
    → one ≡ out ++ (name_1 ++ (table ++ (name_2 ++ key))) → label_3 ≡ one ++ name_3 → three ≡ label_3 ++ value_3 → label_4 ≡ three ++ name_4 → four ≡ label_4 ++ value_4
    → all ≡ four ++ end → all ≡ out ++ (name_1 ++ ((table ++ (name_2 ++ (key ++ (name_3 ++ (value_3 ++ (name_4 ++ (value_4 ++ []))))))) ++ end))
row-values-object out one label_3 three label_4 four all name_1 table name_2 key name_3 value_3 name_4 value_4 end p q r s t u =
    u ∙ ap (λ o. o ++ end) (t ∙ ap (λ o. o ++ value_4) (s ∙ ap (λ o. o ++ name_4) (r ∙ ap (λ o. o ++ value_3) (q ∙ ap (λ o. o ++ name_3) p))))
    ∙ simp (append_assoc, append-nil)

-- three members, each of which is a label and a value
pub three-labelled : (out label_1 one label_2 two label_3 all name_1 value_1 name_2 value_2 name_3 value_3 : List ℕ)
    → label_1 ≡ out ++ name_1 → one ≡ label_1 ++ value_1 → label_2 ≡ one ++ name_2 → two ≡ label_2 ++ value_2 → label_3 ≡ two ++ name_3 → all ≡ label_3 ++ value_3
    → all ≡ out ++ (name_1 ++ (value_1 ++ (name_2 ++ (value_2 ++ (name_3 ++ (value_3 ++ []))))))
three-labelled out label_1 one label_2 two label_3 all name_1 value_1 name_2 value_2 name_3 value_3 p q r s t u =
    u ∙ ap (λ o. o ++ value_3) (t ∙ ap (λ o. o ++ name_3) (s ∙ ap (λ o. o ++ value_2) (r ∙ ap (λ o. o ++ name_2) (q ∙ ap (λ o. o ++ value_1) p))))
    ∙ simp (append_assoc, append-nil)

-- the line of a call: its number, first members, further ones, and the end
pub call-pieces : (out one two three four all label number first comma members further close feed : List ℕ) → further ≡ first ++ (comma ++ members)
    → one ≡ out ++ (label ++ number) → two ≡ one ++ first → three ≡ two ++ comma → four ≡ three ++ members → all ≡ four ++ (close ++ feed)
    → all ≡ out ++ (label ++ (((number ++ further) ++ close) ++ feed))
call-pieces out one two three four all label number first comma members further close feed e p q r s t =
    t ∙ ap (λ o. o ++ (close ++ feed)) (s ∙ ap (λ o. o ++ members) (r ∙ ap (λ o. o ++ comma) (q ∙ ap (λ o. o ++ first) p)))
    ∙ whole
    ∙ ap (λ f. out ++ (label ++ (((number ++ f) ++ close) ++ feed))) (sym e)
  where
    whole : ((((out ++ (label ++ number)) ++ first) ++ comma) ++ members) ++ (close ++ feed)
        ≡ out ++ (label ++ (((number ++ (first ++ (comma ++ members))) ++ close) ++ feed))
    whole = simp append_assoc

-- the line of an opening: its members, and the end
pub opening-pieces : (out first second all begin members close feed : List ℕ) → first ≡ out ++ begin → second ≡ first ++ members → all ≡ second ++ (close ++ feed)
    → all ≡ out ++ (begin ++ ((members ++ close) ++ feed))
opening-pieces out first second all begin members close feed p q r =
    r ∙ ap (λ o. o ++ (close ++ feed)) (q ∙ ap (λ o. o ++ members) p) ∙ simp append_assoc

-- the opening of a log: what is declared, and an object of three numbers
pub log-pieces : (out first second third fourth fifth all begin name_1 number_1 name_2 value_2 name_3 number_3 name_4 number_4 name_5 number_5 name_6 number_6 name_7 number_7 end : List ℕ)
    → first ≡ out ++ begin
    → second ≡ first ++ (name_1 ++ (number_1 ++ (name_2 ++ (value_2 ++ (name_3 ++ (number_3 ++ (name_4 ++ (number_4 ++ []))))))))
    → third ≡ second ++ (name_5 ++ number_5) → fourth ≡ third ++ (name_6 ++ number_6) → fifth ≡ fourth ++ (name_7 ++ number_7) → all ≡ fifth ++ (end ++ end)
    → all ≡ out ++ (begin ++ (name_1 ++ ((number_1 ++ (name_2 ++ (value_2 ++ (name_3 ++ (number_3 ++ (name_4 ++ (number_4 ++ (name_5 ++ (((number_5 ++ (name_6 ++ (number_6 ++ (name_7 ++ (number_7 ++ []))))) ++ end) ++ []))))))))) ++ end)))
log-pieces out first second third fourth fifth all begin name_1 number_1 name_2 value_2 name_3 number_3 name_4 number_4 name_5 number_5 name_6 number_6 name_7 number_7 end p q r s t u =
    u ∙ ap (λ o. o ++ (end ++ end)) (t ∙ ap (λ o. o ++ (name_7 ++ number_7)) (s ∙ ap (λ o. o ++ (name_6 ++ number_6)) (r ∙ ap (λ o. o ++ (name_5 ++ number_5))
    (q ∙ ap (λ o. o ++ (name_1 ++ (number_1 ++ (name_2 ++ (value_2 ++ (name_3 ++ (number_3 ++ (name_4 ++ (number_4 ++ []))))))))) p))))
    ∙ simp (append_assoc, append-nil)

-- an object of members
pub members-object : (out first second all begin members end : List ℕ) → first ≡ out ++ begin → second ≡ first ++ members → all ≡ second ++ end
    → all ≡ out ++ (begin ++ (members ++ end))
members-object out first second all begin members end p q r = r ∙ ap (λ o. o ++ end) (q ∙ ap (λ o. o ++ members) p) ∙ simp append_assoc

-- an object of a number, and of members behind a comma
pub number-members-object : (out first second third all label number comma members end : List ℕ) → first ≡ out ++ (label ++ number) → second ≡ first ++ comma
    → third ≡ second ++ members → all ≡ third ++ end → all ≡ out ++ (label ++ ((number ++ (comma ++ members)) ++ end))
number-members-object out first second third all label number comma members end p q r s =
    s ∙ ap (λ o. o ++ end) (r ∙ ap (λ o. o ++ members) (q ∙ ap (λ o. o ++ comma) p)) ∙ simp append_assoc

-- an object of a number, and of further members in two parts
pub number-parts-object : (out one two three four all label number comma members last further end : List ℕ) → further ≡ comma ++ (members ++ last)
    → one ≡ out ++ (label ++ number) → two ≡ one ++ comma → three ≡ two ++ members → four ≡ three ++ last → all ≡ four ++ end
    → all ≡ out ++ (label ++ ((number ++ further) ++ end))
number-parts-object out one two three four all label number comma members last further end e p q r s t =
    t ∙ ap (λ o. o ++ end) (s ∙ ap (λ o. o ++ last) (r ∙ ap (λ o. o ++ members) (q ∙ ap (λ o. o ++ comma) p)))
    ∙ whole
    ∙ ap (λ f. out ++ (label ++ ((number ++ f) ++ end))) (sym e)
  where
    whole : ((((out ++ (label ++ number)) ++ comma) ++ members) ++ last) ++ end ≡ out ++ (label ++ ((number ++ (comma ++ (members ++ last))) ++ end))
    whole = simp append_assoc

-- two numbers, and more members
pub trial-pieces : (out one all name_1 number_1 name_2 number_2 rest : List ℕ)
    → one ≡ out ++ (name_1 ++ (number_1 ++ (name_2 ++ (number_2 ++ [])))) → all ≡ one ++ rest
    → all ≡ out ++ (name_1 ++ (number_1 ++ (name_2 ++ (number_2 ++ rest))))
trial-pieces out one all name_1 number_1 name_2 number_2 rest p q = q ∙ ap (λ o. o ++ rest) p ∙ simp (append_assoc, append-nil)
