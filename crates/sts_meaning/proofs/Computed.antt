-- Worked rows, computed by the definitions.
use Rattle.sts_syntax.specs.declared.operators.TheConstants.{ADD}
use Rattle.sts_syntax.specs.declared.typed.Spot.TheVariants.{Local}
use Rattle.sts_syntax.specs.declared.typed.Callee.TheVariants as c
use Rattle.sts_syntax.specs.declared.board_calls.BoardCall.TheVariants as b
use Rattle.sts_syntax.specs.Types as t
use Rattle.sts_syntax.specs.TypedTrees as e
use Rattle.sts_syntax.specs.Weights.{weight}
use Rattle.sts_syntax.specs.Nodes.{text_weight}
use Rattle.std.proofs.Common.{◌≡◌, refl}
use Rattle.std.specs.Prelude.{pos, true, false, [], ◌∷◌, Some, None, codes}
use Rattle.std.specs.Fmt.{digits}
use Rattle.std.specs.Int.{int_wrap}
use Rattle.sts_meaning.specs.Steps.{words, repeating}
use Rattle.sts_meaning.specs.Forms.{num, binary, less, board, call, send, handler, does, let_local, list, args, truths, steps, object, makes, name, bumps}
use Rattle.sts_meaning.specs.Programs.{written, written_on, pressed, counted, division, blinking, deep_handlers, two_handlers, endless, seats, past_the_end, through_null, at_once, endless_raisers, busy, deepest, many_objects, many_arrays, many_growths, written_with, texts, questions, deep, presses, big_worker, library_and_blinking, weights}
use Rattle.sts_meaning.specs.Orders.{item_set, set_each_time, item_set_past_the_end, item_added_past_the_end, item_taken_meanwhile, growing_list, list_evaluated_once, field_set_through_null, field_added_through_null, methods, constructors, early_stops, steps_of_a_name, unset, numbers_of_32_bits}

pub rows_of_numbers-division : written 30 division ≡ codes "0 serial 30\n0 serial 2d31\nend 0 quiet\n"
unfolding digits int_wrap
rows_of_numbers-division = refl

pub rows_of_numbers-bits : written 60 numbers_of_32_bits ≡ codes "0 serial 3135\n0 serial 2d35\n0 serial 32\n0 serial 2d32313437343833363438\n0 serial 2d33\nend 0 quiet\n"
unfolding digits int_wrap
rows_of_numbers-bits = refl

pub rows_of_numbers-names : written 100 steps_of_a_name ≡ codes "0 serial 35\n0 serial 36\n0 serial 35\n0 serial 32\n0 serial 34\nend 0 quiet\n"
unfolding digits int_wrap
rows_of_numbers-names = refl

pub rows_of_numbers-unset : written 30 unset ≡ codes "0 serial 30\n0 serial 30\n0 serial 33\nend 0 quiet\n"
unfolding digits int_wrap
rows_of_numbers-unset = refl

pub rows_of_activities-blinking : written_on 60 blinking 50 [] ≡ codes "0 display #..../...../...../...../.....\n20 display ...../...../...../...../.....\n40 display #..../...../...../...../.....\nend 50 script\n"
unfolding digits int_wrap
rows_of_activities-blinking = refl

pub rows_of_activities-deep_handlers : counted 120 deep_handlers ≡ codes "0 serial 313130\n5 serial 373231\nend 5 quiet\nstats spawned 1 blocked 1 words 25 seats 1\n"
unfolding digits int_wrap
rows_of_activities-deep_handlers = refl

pub rows_of_activities-two_handlers : written 60 two_handlers ≡ codes "0 serial 32\n5 serial 31\nend 5 quiet\n"
unfolding digits int_wrap
rows_of_activities-two_handlers = refl

pub rows_of_activities-click : written_on 40 presses 1000 (pressed 100 300) ≡ codes "300 serial 31\nend 300 quiet\n"
unfolding digits int_wrap
rows_of_activities-click = refl

pub rows_of_activities-long_press : written_on 40 presses 2000 (pressed 100 1100) ≡ codes "end 1100 quiet\n"
unfolding digits int_wrap
rows_of_activities-long_press = refl

pub rows_of_activities-seats : counted 1000 (seats 23) ≡ codes "0 serial 37\nend 0 quiet\nstats spawned 24 blocked 0 words 161 seats 24\n"
unfolding digits int_wrap
rows_of_activities-seats = refl

pub rows_of_activities-no_seat : written 1000 (seats 24) ≡ codes "panic 0 101\n"
unfolding digits int_wrap
rows_of_activities-no_seat = refl

pub rows_of_busy_listeners-queues : counted 200 (busy 16 3) ≡ codes "5 serial 31\n10 serial 32\n15 serial 33\nend 15 quiet\nstats spawned 1 blocked 1 words 18 seats 1\n"
unfolding digits int_wrap
rows_of_busy_listeners-queues = refl

pub rows_of_busy_listeners-drops : written 200 (busy 32 3) ≡ codes "5 serial 31\nend 5 quiet\n"
unfolding digits int_wrap
rows_of_busy_listeners-drops = refl

pub rows_of_busy_listeners-begins_each : written 200 (busy 8 3) ≡ codes "5 serial 31\n5 serial 32\n5 serial 33\nend 5 quiet\n"
unfolding digits int_wrap
rows_of_busy_listeners-begins_each = refl

pub rows_of_raising_at_once-once : counted 100 (at_once 1) ≡ codes "0 serial 31\n0 serial 39\n5 serial 32\nend 5 quiet\nstats spawned 1 blocked 1 words 6 seats 2\n"
unfolding digits int_wrap
rows_of_raising_at_once-once = refl

pub rows_of_raising_at_once-twice : counted 150 (at_once 2) ≡ codes "0 serial 31\n0 serial 39\n0 serial 39\n5 serial 32\n5 serial 31\n10 serial 32\nend 10 quiet\nstats spawned 1 blocked 1 words 12 seats 2\n"
unfolding digits int_wrap
rows_of_raising_at_once-twice = refl

pub rows_of_raising_at_once-raisers : written 400 (endless_raisers 0) ≡ codes "panic 0 106\n"
unfolding digits int_wrap
rows_of_raising_at_once-raisers = refl

pub rows_of_raising_at_once-depth : written 400 (endless_raisers 30) ≡ codes "panic 0 102\n"
unfolding digits int_wrap
rows_of_raising_at_once-depth = refl

pub rows_of_texts-texts : written_with 60 (codes "hi" ∷ codes "ho" ∷ []) texts ≡ codes "0 serial 6869\n0 serial 32\npanic 0 105\n"
unfolding digits int_wrap
rows_of_texts-texts = refl

pub rows_of_texts-questions : written 80 questions ≡ codes "0 display .#.../...../...../...../.....\n0 display ...../...../...../...../.....\n7 serial 37\npanic 8 44\n"
unfolding digits int_wrap
rows_of_texts-questions = refl

pub rows_of_limits-deepest : written 2000 deepest ≡ codes "0 serial 313336\npanic 0 102\n"
unfolding digits int_wrap
rows_of_limits-deepest = refl

pub rows_of_limits-objects : written 1500 many_objects ≡ codes "0 serial 3930\npanic 0 20\n"
unfolding digits int_wrap
rows_of_limits-objects = refl

pub rows_of_limits-arrays : written 7000 many_arrays ≡ codes "0 serial 3434\npanic 0 20\n"
unfolding digits int_wrap
rows_of_limits-arrays = refl

pub rows_of_limits-growths : written 5000 many_growths ≡ codes "0 serial 333132\npanic 0 20\n"
unfolding digits int_wrap
rows_of_limits-growths = refl

pub rows_of_limits-frames : written 1000 (endless 1) ≡ codes "0 serial 31\n0 serial 32\n0 serial 33\n0 serial 34\n0 serial 35\n0 serial 36\n0 serial 37\n0 serial 38\n0 serial 39\n0 serial 3130\n0 serial 3131\n0 serial 3132\n0 serial 3133\n0 serial 3134\n0 serial 3135\n0 serial 3136\n0 serial 3137\n0 serial 3138\n0 serial 3139\n0 serial 3230\n0 serial 3231\n0 serial 3232\n0 serial 3233\n0 serial 3234\n0 serial 3235\n0 serial 3236\n0 serial 3237\n0 serial 3238\n0 serial 3239\n0 serial 3330\n0 serial 3331\n0 serial 3332\n0 serial 3333\n0 serial 3334\n0 serial 3335\n0 serial 3336\n0 serial 3337\n0 serial 3338\n0 serial 3339\n0 serial 3430\n0 serial 3431\n0 serial 3432\n0 serial 3433\n0 serial 3434\n0 serial 3435\n0 serial 3436\n0 serial 3437\n0 serial 3438\n0 serial 3439\n0 serial 3530\n0 serial 3531\n0 serial 3532\n0 serial 3533\n0 serial 3534\n0 serial 3535\n0 serial 3536\n0 serial 3537\n0 serial 3538\n0 serial 3539\n0 serial 3630\n0 serial 3631\n0 serial 3632\n0 serial 3633\n0 serial 3634\n0 serial 3635\n0 serial 3636\n0 serial 3637\n0 serial 3638\n0 serial 3639\n0 serial 3730\n0 serial 3731\n0 serial 3732\n0 serial 3733\n0 serial 3734\n0 serial 3735\n0 serial 3736\n0 serial 3737\n0 serial 3738\n0 serial 3739\n0 serial 3830\n0 serial 3831\n0 serial 3832\n0 serial 3833\n0 serial 3834\n0 serial 3835\n0 serial 3836\n0 serial 3837\n0 serial 3838\n0 serial 3839\n0 serial 3930\n0 serial 3931\n0 serial 3932\n0 serial 3933\n0 serial 3934\n0 serial 3935\n0 serial 3936\n0 serial 3937\n0 serial 3938\n0 serial 3939\n0 serial 313030\n0 serial 313031\n0 serial 313032\n0 serial 313033\n0 serial 313034\n0 serial 313035\n0 serial 313036\n0 serial 313037\n0 serial 313038\n0 serial 313039\n0 serial 313130\n0 serial 313131\n0 serial 313132\n0 serial 313133\n0 serial 313134\n0 serial 313135\n0 serial 313136\n0 serial 313137\n0 serial 313138\n0 serial 313139\npanic 0 102\n"
unfolding digits int_wrap
rows_of_limits-frames = refl

pub rows_of_limits-past_the_end : written 30 past_the_end ≡ codes "panic 0 104\n"
unfolding digits int_wrap
rows_of_limits-past_the_end = refl

pub rows_of_limits-through_null : written 30 through_null ≡ codes "panic 0 105\n"
unfolding digits int_wrap
rows_of_limits-through_null = refl

pub rows_of_assignments-item : written 40 item_set ≡ codes "0 serial 30\n0 serial 37\n0 serial 37\nend 0 quiet\n"
unfolding digits int_wrap
rows_of_assignments-item = refl

pub rows_of_assignments-item_at_store : written 40 item_set_past_the_end ≡ codes "0 serial 37\npanic 0 104\n"
unfolding digits int_wrap
rows_of_assignments-item_at_store = refl

pub rows_of_assignments-item_at_read : written 40 item_added_past_the_end ≡ codes "panic 0 104\n"
unfolding digits int_wrap
rows_of_assignments-item_at_read = refl

pub rows_of_assignments-item_at_both : written 40 item_taken_meanwhile ≡ codes "0 serial 33\npanic 0 104\n"
unfolding digits int_wrap
rows_of_assignments-item_at_both = refl

pub rows_of_assignments-field_at_store : written 40 field_set_through_null ≡ codes "0 serial 37\npanic 0 105\n"
unfolding digits int_wrap
rows_of_assignments-field_at_store = refl

pub rows_of_assignments-field_at_read : written 40 field_added_through_null ≡ codes "panic 0 105\n"
unfolding digits int_wrap
rows_of_assignments-field_at_read = refl

pub rows_of_orders-growing : written 100 growing_list ≡ codes "0 serial 31\n0 serial 32\n0 serial 33\nend 0 quiet\n"
unfolding digits int_wrap
rows_of_orders-growing = refl

pub rows_of_orders-once : written 100 list_evaluated_once ≡ codes "0 serial 35\n0 serial 31\n0 serial 33\nend 0 quiet\n"
unfolding digits int_wrap
rows_of_orders-once = refl

pub rows_of_orders-methods : written 100 methods ≡ codes "0 serial 35\n0 serial 3630\n0 serial 37\npanic 0 105\n"
unfolding digits int_wrap
rows_of_orders-methods = refl

pub rows_of_orders-constructors : written 100 constructors ≡ codes "0 serial 33\n0 serial 31\n0 serial 32\n0 serial 34\n0 serial 35\n0 serial 34\nend 0 quiet\n"
unfolding digits int_wrap
rows_of_orders-constructors = refl

pub rows_of_orders-each_time : written 60 set_each_time ≡ codes "0 serial 30\n0 serial 30\nend 0 quiet\n"
unfolding digits int_wrap
rows_of_orders-each_time = refl

pub rows_of_orders-early : written 60 early_stops ≡ codes "0 serial 32\n0 serial 33\n0 serial 36\n0 serial 39\n0 serial 37\nend 0 quiet\n"
unfolding digits int_wrap
rows_of_orders-early = refl

pub counted_steps_of_expressions-nothing : steps ([]) ≡ 3
unfolding digits int_wrap
counted_steps_of_expressions-nothing = refl

pub counted_steps_of_expressions-literal : steps (does (num 1) ∷ []) ≡ 4
unfolding digits int_wrap
counted_steps_of_expressions-literal = refl

pub counted_steps_of_expressions-name : steps (does name ∷ []) ≡ 4
unfolding digits int_wrap
counted_steps_of_expressions-name = refl

pub counted_steps_of_expressions-operator : steps (does (binary ADD (num 1) (num 2)) ∷ []) ≡ 6
unfolding digits int_wrap
counted_steps_of_expressions-operator = refl

pub counted_steps_of_expressions-both : steps (does (e.Both t.Boolean (truths true) (truths false)) ∷ []) ≡ 6
unfolding digits int_wrap
counted_steps_of_expressions-both = refl

pub counted_steps_of_expressions-choice : steps (does (e.Choice t.Number (truths true) (num 1) (num 2)) ∷ []) ≡ 6
unfolding digits int_wrap
counted_steps_of_expressions-choice = refl

pub counted_steps_of_expressions-assignment : steps (does (e.Set t.Number None name (num 1)) ∷ []) ≡ 5
unfolding digits int_wrap
counted_steps_of_expressions-assignment = refl

pub counted_steps_of_expressions-compound : steps (does (e.Set t.Number (Some ADD) name (num 1)) ∷ []) ≡ 7
unfolding digits int_wrap
counted_steps_of_expressions-compound = refl

pub counted_steps_of_expressions-bump : steps (bumps name ∷ []) ≡ 4
unfolding digits int_wrap
counted_steps_of_expressions-bump = refl

pub counted_steps_of_expressions-array : steps (does (list (num 1 ∷ num 2 ∷ [])) ∷ []) ≡ 8
unfolding digits int_wrap
counted_steps_of_expressions-array = refl

pub counted_steps_of_expressions-length : steps (does (e.Length t.Number (list [])) ∷ []) ≡ 5
unfolding digits int_wrap
counted_steps_of_expressions-length = refl

pub counted_steps_of_expressions-item : steps (does (e.Item t.Number (list (num 1 ∷ [])) (num 0)) ∷ []) ≡ 8
unfolding digits int_wrap
counted_steps_of_expressions-item = refl

pub counted_steps_of_expressions-push : steps (does (e.Call t.Nothing c.Push (args (list [] ∷ num 1 ∷ []))) ∷ []) ≡ 6
unfolding digits int_wrap
counted_steps_of_expressions-push = refl

pub counted_steps_of_expressions-call : steps (does (call t.Nothing 2 []) ∷ []) ≡ 6
unfolding digits int_wrap
counted_steps_of_expressions-call = refl

pub counted_steps_of_expressions-board : steps (does (board b.WriteNumber (num 1 ∷ [])) ∷ []) ≡ 5
unfolding digits int_wrap
counted_steps_of_expressions-board = refl

pub counted_steps_of_expressions-always : steps (does (board b.Plot (num 0 ∷ num 0 ∷ [])) ∷ []) ≡ 7
unfolding digits int_wrap
counted_steps_of_expressions-always = refl

pub counted_steps_of_expressions-object : steps (does (e.Make (t.Object 0) 0 e.none) ∷ []) ≡ 7
unfolding digits int_wrap
counted_steps_of_expressions-object = refl

pub counted_steps_of_expressions-base : steps (does (e.Make (t.Object 1) 1 e.none) ∷ []) ≡ 11
unfolding digits int_wrap
counted_steps_of_expressions-base = refl

pub counted_steps_of_expressions-method : steps (makes ∷ does (send t.Nothing 0 (object ∷ [])) ∷ []) ≡ 12
unfolding digits int_wrap
counted_steps_of_expressions-method = refl

pub counted_steps_of_expressions-field : steps (makes ∷ does (e.Field t.Number object 0) ∷ []) ≡ 10
unfolding digits int_wrap
counted_steps_of_expressions-field = refl

pub counted_steps_of_expressions-field_set : steps (makes ∷ does (e.Set t.Number None (e.Field t.Number object 0) (num 1)) ∷ []) ≡ 11
unfolding digits int_wrap
counted_steps_of_expressions-field_set = refl

pub counted_steps_of_expressions-field_added : steps (makes ∷ does (e.Set t.Number (Some ADD) (e.Field t.Number object 0) (num 1)) ∷ []) ≡ 13
unfolding digits int_wrap
counted_steps_of_expressions-field_added = refl

pub counted_steps_of_expressions-handler : steps (does (board b.OnEvent (num 1 ∷ num 1 ∷ handler 2 ∷ [])) ∷ []) ≡ 7
unfolding digits int_wrap
counted_steps_of_expressions-handler = refl

pub counted_steps_of_statements-initialised : steps (let_local 0 (num 1) ∷ []) ≡ 5
unfolding digits int_wrap
counted_steps_of_statements-initialised = refl

pub counted_steps_of_statements-declared : steps (e.Let false (record { name = Local 0; first = None } ∷ []) ∷ []) ≡ 5
unfolding digits int_wrap
counted_steps_of_statements-declared = refl

pub counted_steps_of_statements-condition : steps (e.IfOnly (truths true) e.Empty ∷ []) ≡ 5
unfolding digits int_wrap
counted_steps_of_statements-condition = refl

pub counted_steps_of_statements-turns : steps (e.While (less name (num 1)) (bumps name) ∷ []) ≡ 13
unfolding digits int_wrap
counted_steps_of_statements-turns = refl

pub counted_steps_of_statements-repetition : steps (e.DoWhile (bumps name) (less name (num 1)) ∷ []) ≡ 8
unfolding digits int_wrap
counted_steps_of_statements-repetition = refl

pub counted_steps_of_statements-bounded : steps (e.For e.omitted (Some (less name (num 2))) (Some (e.Bump t.Number name (pos 1) true)) e.Empty ∷ []) ≡ 19
unfolding digits int_wrap
counted_steps_of_statements-bounded = refl

pub counted_steps_of_statements-items : steps (e.ForOf true (Local 0) (list (num 1 ∷ num 2 ∷ [])) e.Empty ∷ []) ≡ 14
unfolding digits int_wrap
counted_steps_of_statements-items = refl

pub counted_steps_of_statements-left : steps (e.While (truths true) e.Break ∷ []) ≡ 6
unfolding digits int_wrap
counted_steps_of_statements-left = refl

pub counted_steps_of_statements-left_of_items : steps (e.ForOf true (Local 0) (list (num 1 ∷ num 2 ∷ [])) e.Continue ∷ []) ≡ 16
unfolding digits int_wrap
counted_steps_of_statements-left_of_items = refl

pub counted_steps_of_statements-block : steps (e.Block e.done ∷ []) ≡ 3
unfolding digits int_wrap
counted_steps_of_statements-block = refl

pub rows_of_measures-deep : words deep_handlers [] 0 ≡ 8
unfolding digits int_wrap
rows_of_measures-deep = refl

pub rows_of_measures-mid : words deep_handlers [] 1 ≡ 10
unfolding digits int_wrap
rows_of_measures-mid = refl

pub rows_of_measures-handler : words deep_handlers [] 2 ≡ 7
unfolding digits int_wrap
rows_of_measures-handler = refl

pub rows_of_measures-four_names : words deep_handlers [] 3 ≡ 11
unfolding digits int_wrap
rows_of_measures-four_names = refl

pub rows_of_measures-caller : words (endless 1) [] 1 ≡ 7
unfolding digits int_wrap
rows_of_measures-caller = refl

pub rows_of_measures-called : words (endless 1) [] 0 ≡ 8
unfolding digits int_wrap
rows_of_measures-called = refl

pub rows_of_measures-waiter : words (seats 23) [] 0 ≡ 7
unfolding digits int_wrap
rows_of_measures-waiter = refl

pub rows_of_measures-raiser : words (endless_raisers 0) [] 1 ≡ 9
unfolding digits int_wrap
rows_of_measures-raiser = refl

pub rows_of_measures-raised : words (endless_raisers 0) [] 0 ≡ 7
unfolding digits int_wrap
rows_of_measures-raised = refl

pub rows_of_measures-presses : words presses [] 1 ≡ 8
unfolding digits int_wrap
rows_of_measures-presses = refl

pub rows_of_measures-items : words growing_list [] 0 ≡ 10
unfolding digits int_wrap
rows_of_measures-items = refl

pub rows_of_measures-worker : words big_worker [] 0 ≡ 9
unfolding digits int_wrap
rows_of_measures-worker = refl

pub rows_of_measures-repeated : words blinking [] (repeating blinking [] 0) ≡ 6
unfolding digits int_wrap
rows_of_measures-repeated = refl

pub rows_of_measures-weight_deep : weight deep ≡ 14
unfolding digits int_wrap
rows_of_measures-weight_deep = refl

pub rows_of_measures-weight_seats : weights (seats 23) ≡ 28 ∷ 7 ∷ 8 ∷ []
unfolding digits int_wrap
rows_of_measures-weight_seats = refl

pub rows_of_measures-weight_methods : weights methods ≡ 38 ∷ 6 ∷ 9 ∷ 9 ∷ 9 ∷ 9 ∷ []
unfolding digits int_wrap
rows_of_measures-weight_methods = refl

pub rows_of_measures-weight_text : text_weight library_and_blinking ≡ 26
unfolding digits int_wrap
rows_of_measures-weight_text = refl
