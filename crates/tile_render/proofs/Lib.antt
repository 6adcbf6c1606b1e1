mod FilledLaws
