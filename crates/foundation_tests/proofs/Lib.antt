mod OneLink
